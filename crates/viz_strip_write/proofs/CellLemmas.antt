-- Rows of cells, one more at a time.
use Rattle.std.proofs.Common.{◌≡◌, ℕ, ◌+◌, ◌<◌, ◌≤◌, ◌==◌, Bool, true, false, List, [], ◌∷◌, ◌++◌, length, get_or, map, take, refl, sym, ap, ap₂, ◌∙◌, append_assoc, append-nil, arith, zero, suc, eqb-true}
use Rattle.std.specs.Prelude.{All, pos, cond}
use Rattle.std.specs.List.{filter, flat_map}
use Rattle.std.specs.Fmt.{decimal}
use Rattle.std.proofs.lemmas.List.{flat_map_more, length-append, length-map, take_more}
use Rattle.std.proofs.lemmas.List.Concat.{flat_map-append}
use Rattle.std.proofs.lemmas.List.Folds.{flat_map-map}
use Rattle.std.proofs.lemmas.List.Elements.{All-nil, All-cons, All-head, All-tail}
use Rattle.viz_image_write.specs.ImageText.{spaced_number}
use Rattle.viz_mesh_write.specs.Cells.{of_size}
use Rattle.viz_mesh_write.specs.MeshText.{cell_numbers, size_of}
use Rattle.viz_sheet.specs.Sheet.{AreAscending}
use Rattle.viz_sheet.specs.Ranked.{IsCell, by_names, ranks_of}
use Rattle.viz_sheet.proofs.RankLemmas.{ranks-at}
use Rattle.viz_strip.specs.Strips.{IsTriangle}
use Rattle.viz_strip_write.specs.Steps.Rows.{row_of, rows_of, spaced}

-- a list of cells and one more
pub taken : (cells : List (List ℕ)) (i : ℕ) (c : List ℕ) → i < length cells → c ≡ get_or cells i [] → take (i + 1) cells ≡ take i cells ++ c ∷ []
taken cells i c l e = take_more cells i [] l ∙ ap (λ (x : List ℕ). take i cells ++ x ∷ []) (sym e)

-- the line of a cell
pub row-is : (cell old one two new : List ℕ) → one ≡ old ++ decimal (length cell) → two ≡ one ++ flat_map spaced cell → new ≡ two ++ 10 ∷ [] → new ≡ old ++ row_of cell
row-is cell old one two new e f g =
    let words = flat_map spaced cell in
    let numbers : words ≡ flat_map spaced_number (map (λ (n : ℕ). pos n) cell) = sym (flat_map-map spaced_number (λ (n : ℕ). pos n) cell) in
    g ∙ ap (λ (t : List ℕ). t ++ 10 ∷ []) (f ∙ ap (λ (t : List ℕ). t ++ words) e ∙ append_assoc old (decimal (length cell)) words)
    ∙ append_assoc old (decimal (length cell) ++ words) (10 ∷ [])
    ∙ ap (λ (t : List ℕ). old ++ (decimal (length cell) ++ t ++ 10 ∷ [])) numbers

-- one row more
pub rows-more : (cells : List (List ℕ)) (i : ℕ) (c old mid new : List ℕ) → i < length cells → c ≡ get_or cells i [] → mid ≡ old ++ rows_of (take i cells) → new ≡ mid ++ row_of c → new ≡ old ++ rows_of (take (i + 1) cells)
rows-more cells i c old mid new l e h k =
    k ∙ ap (λ (t : List ℕ). t ++ row_of c) h ∙ append_assoc old (rows_of (take i cells)) (row_of c)
    ∙ ap (λ (t : List ℕ). old ++ t) (flat_map_more row_of [] (take i cells) c ∙ ap rows_of (sym (taken cells i c l e)))

filter-append : {X : Type 0} (p : X → Bool) (xs ys : List X) → filter p (xs ++ ys) ≡ filter p xs ++ filter p ys
filter-append p [] ys = refl
filter-append p (x ∷ xs) ys = both (p x) x (filter p xs) (filter p ys) (filter p (xs ++ ys)) (filter-append p xs ys)
  where
    both : {X : Type 0} (b : Bool) (x : X) (f g h : List X) → h ≡ f ++ g → cond b (x ∷ h) h ≡ cond b (x ∷ f) f ++ g
    both true x f g h e = ap (λ t. x ∷ t) e
    both false x f g h e = e

-- the cells of a size, and one more of any size
pub sized-more : (size : ℕ) (cells : List (List ℕ)) (i : ℕ) (c : List ℕ) → i < length cells → c ≡ get_or cells i [] → of_size size (take (i + 1) cells) ≡ of_size size (take i cells) ++ of_size size (c ∷ [])
sized-more size cells i c l e = ap (of_size size) (taken cells i c l e) ∙ filter-append (λ cell. length cell == size) (take i cells) (c ∷ [])

pub sized-rows-more : (size : ℕ) (cells : List (List ℕ)) (i : ℕ) (c old mid new : List ℕ) → i < length cells → c ≡ get_or cells i [] → mid ≡ old ++ rows_of (of_size size (take i cells)) → new ≡ mid ++ rows_of (of_size size (c ∷ []))
    → new ≡ old ++ rows_of (of_size size (take (i + 1) cells))
sized-rows-more size cells i c old mid new l e h k =
    let front = of_size size (take i cells) in
    let more = of_size size (c ∷ []) in
    k ∙ ap (λ (t : List ℕ). t ++ rows_of more) h ∙ append_assoc old (rows_of front) (rows_of more)
    ∙ ap (λ (t : List ℕ). old ++ t) (sym (flat_map-append row_of front more) ∙ ap rows_of (sym (sized-more size cells i c l e)))

-- how many numbers rows have, and one row more
pub size-more : (rows : List (List ℕ)) (i : ℕ) (c : List ℕ) → i < length rows → c ≡ get_or rows i [] → size_of (take (i + 1) rows) ≡ size_of (take i rows) + (length c + 1)
size-more rows i c l e =
    ap size_of (taken rows i c l e) ∙ ap length (flat_map-append cell_numbers (take i rows) (c ∷ [])) ∙ length-append (flat_map cell_numbers (take i rows)) (flat_map cell_numbers (c ∷ []))
    ∙ ap (λ (n : ℕ). size_of (take i rows) + n) (one ∙ omega arith)
  where
    one : length (flat_map cell_numbers (c ∷ [])) ≡ length c + 1
    one = ap length (append-nil (cell_numbers c)) ∙ (length-map (length c ∷ c) (λ (n : ℕ). pos n) ∙ omega arith)

size-front : (rows : List (List ℕ)) (i : ℕ) → size_of (take i rows) ≤ size_of rows
size-front [] zero = omega arith
size-front [] (suc i) = omega arith
size-front (c ∷ rows) zero = omega arith
size-front (c ∷ rows) (suc i) =
    let a : size_of (c ∷ take i rows) ≡ length (cell_numbers c) + size_of (take i rows) = length-append (cell_numbers c) (flat_map cell_numbers (take i rows)) in
    let b : size_of (c ∷ rows) ≡ length (cell_numbers c) + size_of rows = length-append (cell_numbers c) (flat_map cell_numbers rows) in
    omega (arith, size-front rows i)

pub size-front-le : (rows : List (List ℕ)) (i : ℕ) → size_of (take i rows) ≤ size_of rows
size-front-le = size-front

-- the triangles among cells of ranks
triangle-is : (n : ℕ) (cell : List ℕ) → IsCell n cell → (length cell == 3) ≡ true → IsTriangle cell
triangle-is n cell is three = record { three = eqb-true (length cell) 3 three; apart = is.apart }

pub all-triangles : (n : ℕ) (cells : List (List ℕ)) → All (IsCell n) cells → All IsTriangle (of_size 3 cells)
all-triangles n [] a = All-nil IsTriangle
all-triangles n (c ∷ cells) a =
    kept (length c == 3) c (of_size 3 cells) (λ e. triangle-is n c (All-head (IsCell n) c cells a) e) (all-triangles n cells (All-tail (IsCell n) c cells a))
  where
    kept : (b : Bool) (c : List ℕ) (rest : List (List ℕ)) → (b ≡ true → IsTriangle c) → All IsTriangle rest → All IsTriangle (cond b (c ∷ rest) rest)
    kept true c rest f r = All-cons IsTriangle c rest (f refl) r
    kept false c rest f r = r

pub all-below : (n : ℕ) (cells : List (List ℕ)) → All (IsCell n) cells → All (λ t. All (λ r. r < n) t) (of_size 3 cells)
all-below n [] a = All-nil (λ t. All (λ r. r < n) t)
all-below n (c ∷ cells) a = kept (length c == 3) c (of_size 3 cells) (All-head (IsCell n) c cells a).below (all-below n cells (All-tail (IsCell n) c cells a))
  where
    kept : (b : Bool) (c : List ℕ) (rest : List (List ℕ)) → All (λ r. r < n) c → All (λ t. All (λ r. r < n) t) rest → All (λ t. All (λ r. r < n) t) (cond b (c ∷ rest) rest)
    kept true c rest f r = All-cons (λ t. All (λ k. k < n) t) c rest f r
    kept false c rest f r = r

-- the ranks of cells by names are the cells by ranks
pub ranks-again : (names : List (List ℕ)) (cells : List (List ℕ)) → AreAscending names → All (IsCell (length names)) cells → map (ranks_of names) (by_names names cells) ≡ cells
ranks-again names [] s h = refl
ranks-again names (c ∷ cells) s h =
    let one = (All-head (IsCell (length names)) c cells h).below in
    ap₂ (λ (x : List ℕ) (xs : List (List ℕ)). x ∷ xs) (sym (ranks-at names c s one)) (ranks-again names cells s (All-tail (IsCell (length names)) c cells h))
