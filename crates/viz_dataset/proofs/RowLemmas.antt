-- A part of an image, one row on, and its rows at their places.
use Rattle.std.proofs.Common.{◌≡◌, ℕ, ℤ, pos, ◌+◌, ◌-◌, ◌*◌, ◌/◌, ◌%◌, ◌<◌, ◌≤◌, List, ◌++◌, length, get_or, take, drop, map, refl, sym, ap, subst, ◌∙◌, inl, inr, arith}
use Rattle.std.proofs.lemmas.Bool.{cases_lt}
use Rattle.std.proofs.lemmas.List.{get_or-append-add, get_or_append_left, get_or-take, get_or-drop, length-append, length-drop, length-take-le, map-append, take-map, drop-map}
use Rattle.std.proofs.lemmas.Nat.{mul-add-lt, div-mul-add, mod-mul-add}
use Rattle.viz_column.specs.declared.kind.Kind8.{Kind8}
use Rattle.viz_extent.specs.Extent.{Bounds, size_x, size_y, size_z, plane_size, count_of, Has}
use Rattle.viz_extent.specs.Numbering.{index_at}
use Rattle.viz_extent.proofs.NumberingLemmas.{index_at-by_rows}
use Rattle.viz_extent.specs.Parts.{IsPart}
use Rattle.viz_dataset.specs.Rows.{row_start, AreRows, AreRestricted}

-- so many numbers from a place on are there
length-run : (xs : List ℤ) (s w : ℕ) → s + w ≤ length xs → length (take w (drop s xs)) ≡ w
length-run xs s w enough = length-take-le w (drop s xs) (omega (arith, length-drop s xs))

-- one of them
get_or-run : (xs : List ℤ) (s w m : ℕ) → m < w → get_or (take w (drop s xs)) m (pos 0) ≡ get_or xs (s + m) (pos 0)
get_or-run xs s w m lt = get_or-take w (drop s xs) m (pos 0) lt ∙ get_or-drop s xs m (pos 0)

-- one row more is copied
pub rows_more : (whole part : Bounds) (r : ℕ) (xs ys zs : List ℤ) → AreRows whole part r xs ys → row_start whole part r + size_x part ≤ length xs
    → zs ≡ take (size_x part) (drop (row_start whole part r) xs) → AreRows whole part (r + 1) xs (ys ++ zs)
rows_more whole part r xs ys zs so_far enough is =
    let w = size_x part in
    let s = row_start whole part r in
    let long : length zs ≡ w = ap length is ∙ length-run xs s w enough in
    record {
      long = omega (arith, length-append ys zs, so_far.long, long);
      each = λ r' m lt in_row. elim (cases_lt r' r) [
        | inl below ↦
            let place : r' * w + m < length ys = omega (arith, so_far.long, mul-add-lt r' w m r below in_row) in
            get_or_append_left ys zs (pos 0) (r' * w + m) place ∙ so_far.each r' m below in_row
        | inr above ↦
            let same : r' ≡ r = omega arith in
            let place : r' * w + m ≡ length ys + m = omega (arith, so_far.long, ap (λ (n : ℕ). n * w) same) in
            ap (λ (n : ℕ). get_or (ys ++ zs) n (pos 0)) place ∙ get_or-append-add ys zs m (pos 0) ∙ ap (λ (t : List ℤ). get_or t m (pos 0)) is
            ∙ get_or-run xs s w m in_row ∙ ap (λ (n : ℕ). get_or xs (row_start whole part n + m) (pos 0)) (sym same)
      ];
    }

-- the same of numbers of a type
pub copied_more : {X : Type 0} (f : X → ℤ) (whole part : Bounds) (r : ℕ) (xs ys zs new : List X) → AreRows whole part r (map f xs) (map f ys)
    → row_start whole part r + size_x part ≤ length (map f xs) → zs ≡ take (size_x part) (drop (row_start whole part r) xs) → new ≡ ys ++ zs
    → AreRows whole part (r + 1) (map f xs) (map f new)
copied_more {X} f whole part r xs ys zs new so_far enough is grown =
    let w = size_x part in
    let s = row_start whole part r in
    let row : map f zs ≡ take w (drop s (map f xs)) = ap (map f) is ∙ sym (take-map f w (drop s xs)) ∙ sym (ap (take w) (drop-map f s xs)) in
    let all : map f new ≡ map f ys ++ map f zs = ap (map f) grown ∙ map-append f ys zs in
    subst (AreRows whole part (r + 1) (map f xs)) (sym all) (rows_more whole part r (map f xs) (map f ys) (map f zs) so_far enough row)

-- the place of a point of the part, by its row
row_of_point : (whole part : Bounds) (i j k : ℕ) → Has part i j k → row_start whole part ((k - part.z0) * size_y part + (j - part.y0)) + (i - part.x0) ≡ index_at whole part.x0 j k + (i - part.x0)
row_of_point whole part i j k has =
    let in_plane : j - part.y0 < size_y part = omega (arith, has.y.at_least, has.y.at_most) in
    let column = mod-mul-add (k - part.z0) (size_y part) (j - part.y0) in_plane in
    let plane = div-mul-add (k - part.z0) (size_y part) (j - part.y0) in_plane in
    let y : part.y0 + ((k - part.z0) * size_y part + (j - part.y0)) % size_y part ≡ j = omega (arith, column, has.y.at_least) in
    let z : part.z0 + ((k - part.z0) * size_y part + (j - part.y0)) / size_y part ≡ k = omega (arith, plane, has.z.at_least) in
    ap (λ (n : ℕ). index_at whole part.x0 n (part.z0 + ((k - part.z0) * size_y part + (j - part.y0)) / size_y part) + (i - part.x0)) y
    ∙ ap (λ (n : ℕ). index_at whole part.x0 j n + (i - part.x0)) z

-- along a row, places in the whole go on by one
along_row : (w x i a b : ℕ) → w ≤ x → x ≤ i → (x - w) + a + b + (i - x) ≡ (i - w) + a + b
along_row w x i a b below within = omega arith

-- when all rows are copied, each point of the part has its number
pub rows-in_place : (whole part : Bounds) (xs ys : List ℤ) → IsPart whole part → AreRows whole part (size_y part * size_z part) xs ys
    → (i j k : ℕ) → Has part i j k → get_or ys (index_at part i j k) (pos 0) ≡ get_or xs (index_at whole i j k) (pos 0)
rows-in_place whole part xs ys within rows i j k has =
    let r = (k - part.z0) * size_y part + (j - part.y0) in
    let in_plane : j - part.y0 < size_y part = omega (arith, has.y.at_least, has.y.at_most) in
    let in_all : k - part.z0 < size_z part = omega (arith, has.z.at_least, has.z.at_most) in
    let in_row : i - part.x0 < size_x part = omega (arith, has.x.at_least, has.x.at_most) in
    let row : r < size_y part * size_z part = mul-add-lt (k - part.z0) (size_y part) (j - part.y0) (size_z part) in_all in_plane in
    let place : row_start whole part r + (i - part.x0) ≡ index_at whole i j k =
    row_of_point whole part i j k has ∙ along_row whole.x0 part.x0 i ((j - whole.y0) * size_x whole) ((k - whole.z0) * plane_size whole) within.x.first has.x.at_least in
    ap (λ (n : ℕ). get_or ys n (pos 0)) (index_at-by_rows part i j k) ∙ rows.each r (i - part.x0) row in_row ∙ ap (λ (n : ℕ). get_or xs n (pos 0)) place

-- when all rows are copied, there is a number for each point of the part
pub length-rows : (whole part : Bounds) (xs ys : List ℤ) → AreRows whole part (size_y part * size_z part) xs ys → length ys ≡ count_of part
length-rows whole part xs ys rows = rows.long ∙ by_planes (size_x part) (size_y part) (size_z part)
  where
    by_planes : (a b c : ℕ) → b * c * a ≡ a * b * c
    by_planes a b c = omega arith

-- when all rows are copied, the numbers are those of the part
pub rows-restricted : (whole part : Bounds) (kind : Kind8) (xs ys : List ℤ) → IsPart whole part → AreRows whole part (size_y part * size_z part) xs ys
    → AreRestricted whole part (record { kind = kind; items = xs }) (record { kind = kind; items = ys })
rows-restricted whole part kind xs ys within rows =
    record {
      kind = refl;
      long = length-rows whole part xs ys rows;
      each = rows-in_place whole part xs ys within rows;
    }
