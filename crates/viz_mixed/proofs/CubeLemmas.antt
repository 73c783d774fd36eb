-- Cubes row by row, by the numbers of their lowest leaves.
use Rattle.std.proofs.Common.{◌≡◌, ℕ, zero, suc, ◌+◌, ◌-◌, ◌*◌, ◌<◌, ◌≤◌, Bool, false, List, [], ◌∷◌, ◌++◌, append-nil, append_assoc, get_or, map, refl, sym, ap, ap₂, subst, ◌∙◌, arith}
use Rattle.std.specs.List.{flat_map, range_with_len}
use Rattle.std.proofs.lemmas.List.{map-append}
use Rattle.std.proofs.lemmas.List.Concat.{flat_map-append}
use Rattle.viz_extent.specs.Extent.{Bounds, Has, IsExtent, count_of, numbers_of, plane_size, size_x}
use Rattle.viz_extent.specs.Numbering.{index_at}
use Rattle.viz_extent.proofs.NumberingLemmas.{index_at_below}
use Rattle.viz_kuhn.specs.Cubes.{HasNext, cubes_x, leaf_of, lowest_in_row}
use Rattle.viz_kuhn.specs.Corners.{corner}
use Rattle.viz_kuhn.specs.Places.{place, place_of}
use Rattle.viz_mixed.specs.Mixed.{corner_flags, is_mixed, mixed_from}

-- ---- ranges

range-split : (from n m : ℕ) → range_with_len from (n + m) ≡ range_with_len from n ++ range_with_len (from + n) m
range-split from zero m = ap (range_with_len from) {x = 0 + m} {y = m} (omega arith) ∙ ap (λ k. range_with_len k m) {x = from} {y = from + 0} (omega arith)
range-split from (suc n) m =
    ap (λ k. range_with_len from k) {x = suc n + m} {y = suc (n + m)} (omega arith)
    ∙ ap (λ r. from ∷ r) (range-split (from + 1) n m ∙ ap (λ k. range_with_len (from + 1) n ++ range_with_len k m) {x = from + 1 + n} {y = from + suc n} (omega arith))

map-from : {X : Type 0} (f : ℕ → X) (from a n : ℕ) → map f (range_with_len (from + a) n) ≡ map (λ i. f (from + i)) (range_with_len a n)
map-from f from a zero = refl
map-from f from a (suc n) = ap (λ t. f (from + a) ∷ t) (ap (λ k. map f (range_with_len k n)) {x = from + a + 1} {y = from + (a + 1)} (omega arith) ∙ map-from f from (a + 1) n)

map-same : {X : Type 0} (f g : ℕ → X) (a n : ℕ) → ((i : ℕ) → a ≤ i → i < a + n → f i ≡ g i) → map f (range_with_len a n) ≡ map g (range_with_len a n)
map-same f g a zero h = refl
map-same f g a (suc n) h = ap₂ (λ x xs. x ∷ xs) (h a (omega arith) (omega arith)) (map-same f g (a + 1) n (λ i l m. h i (omega (arith, l)) (omega (arith, m))))

map-map : {X Y Z : Type 0} (g : Y → Z) (f : X → Y) (xs : List X) → map g (map f xs) ≡ map (λ x. g (f x)) xs
map-map g f [] = refl
map-map g f (x ∷ xs) = ap (λ t. g (f x) ∷ t) (map-map g f xs)

-- some more of a range
pub more-of : {X : Type 0} (f : ℕ → X) (at count : ℕ) (front old new : List X) → old ≡ front ++ map f (range_with_len 0 at)
    → new ≡ old ++ map (λ i. f (at + i)) (range_with_len 0 count) → new ≡ front ++ map f (range_with_len 0 (at + count))
more-of f at count front old new is more =
    more ∙ ap (λ t. t ++ map (λ i. f (at + i)) (range_with_len 0 count)) is
    ∙ append_assoc front (map f (range_with_len 0 at)) (map (λ i. f (at + i)) (range_with_len 0 count))
    ∙ ap (λ t. front ++ t)
    (ap (λ t. map f (range_with_len 0 at) ++ t) (sym (map-from f at 0 count) ∙ ap (λ k. map f (range_with_len k count)) {x = at + 0} {y = 0 + at} (omega arith))
    ∙ sym (ap (map f) (range-split 0 at count) ∙ map-append f (range_with_len 0 at) (range_with_len (0 + at) count)))

-- the same, counted from a leaf
pub from-more : (g : ℕ → Bool) (first at count : ℕ) (front old new : List Bool) → old ≡ front ++ map (λ i. g (first + i)) (range_with_len 0 at)
    → new ≡ old ++ map (λ i. g (first + at + i)) (range_with_len 0 count) → new ≡ front ++ map (λ i. g (first + i)) (range_with_len 0 (at + count))
from-more g first at count front old new is more =
    more-of (λ i. g (first + i)) at count front old new is
    (more ∙ ap (λ t. old ++ t) (map-same (λ i. g (first + at + i)) (λ i. g (first + (at + i))) 0 count (λ i _ _. ap g {x = first + at + i} {y = first + (at + i)} (omega arith))))

-- one more of them
pub one-more : (f : ℕ → Bool) (at : ℕ) (x : Bool) (front old new : List Bool) → old ≡ front ++ map f (range_with_len 0 at)
    → new ≡ old ++ x ∷ [] → x ≡ f at → new ≡ front ++ map f (range_with_len 0 (at + 1))
one-more f at x front old new is more e =
    more-of f at 1 front old new is (more ∙ ap (λ b. old ++ b ∷ []) (e ∙ ap f {x = at} {y = at + 0} (omega arith)))

-- one more of a list of lists
pub layer-more : {X Y : Type 0} (g : X → Y) (f : ℕ → List X) (a k : ℕ) (front old new : List Y) → a ≤ k
    → old ≡ front ++ map g (flat_map f (range_with_len a (k - a))) → new ≡ old ++ map g (f k) → new ≡ front ++ map g (flat_map f (range_with_len a (k + 1 - a)))
layer-more g f a k front old new l is more =
    let all = flat_map f (range_with_len a (k - a)) in
    more ∙ ap (λ t. t ++ map g (f k)) is ∙ append_assoc front (map g all) (map g (f k))
    ∙ ap (λ t. front ++ t)
    (sym (map-append g all (f k))
    ∙ ap (map g)
    (sym (ap (λ n. flat_map f (range_with_len a n)) {x = k + 1 - a} {y = k - a + 1} (omega (arith, l))
    ∙ ap (flat_map f) (range-split a (k - a) 1) ∙ flat_map-append f (range_with_len a (k - a)) (range_with_len (a + (k - a)) 1)
    ∙ ap (λ t. all ++ t) (append-nil (f (a + (k - a))) ∙ ap f {x = a + (k - a)} {y = k} (omega (arith, l))))))

-- ---- a row of cubes

leaf-steps : (b : Bounds) (i j k x y z : ℕ) → b.y0 ≤ j → b.z0 ≤ k
    → leaf_of b (place_of (place (b.x0 + i) j k) (corner x y z)) ≡ index_at b b.x0 j k + i + (x + (y * size_x b + z * plane_size b))
leaf-steps b i j k x y z lj lk =
    let ex : b.x0 + i + x - b.x0 ≡ i + x = omega arith in
    let e0 : b.x0 - b.x0 ≡ 0 = omega arith in
    let ey : j + y - b.y0 ≡ j - b.y0 + y = omega (arith, lj) in
    let ez : k + z - b.z0 ≡ k - b.z0 + z = omega (arith, lk) in
    ap (λ n. n + (j + y - b.y0) * size_x b + (k + z - b.z0) * plane_size b) ex
    ∙ ap₂ (λ m n. i + x + m * size_x b + n * plane_size b) ey ez
    ∙ sums (j - b.y0) (k - b.z0) (size_x b) (plane_size b)
    ∙ ap (λ n. n + (j - b.y0) * size_x b + (k - b.z0) * plane_size b + i + (x + (y * size_x b + z * plane_size b))) (sym e0)
  where
    sums : (m n row plane : ℕ) → i + x + (m + y) * row + (n + z) * plane ≡ 0 + m * row + n * plane + i + (x + (y * row + z * plane))
    sums m n row plane = omega arith

one-cube : (b : Bounds) (flags : List Bool) (i j k : ℕ) → b.y0 ≤ j → b.z0 ≤ k
    → mixed_from flags (size_x b) (plane_size b) (index_at b b.x0 j k + i) ≡ is_mixed (corner_flags b flags (place (b.x0 + i) j k))
one-cube b flags i j k lj lk =
    let first = index_at b b.x0 j k + i in
    let row = size_x b in
    let plane = plane_size b in
    let leaf = λ (x y z : ℕ). leaf-steps b i j k x y z lj lk in
    let flag = λ (l : ℕ). get_or flags l false in
    ap is_mixed
    (λ t.
    flag (sym (leaf 0 0 0 ∙ at first row plane 0 0 0 first (omega arith)) t)
    ∷ flag (sym (leaf 0 0 1 ∙ at first row plane 0 0 1 (first + plane) (omega arith)) t)
    ∷ flag (sym (leaf 0 1 0 ∙ at first row plane 0 1 0 (first + row) (omega arith)) t)
    ∷ flag (sym (leaf 0 1 1 ∙ at first row plane 0 1 1 (first + row + plane) (omega arith)) t)
    ∷ flag (sym (leaf 1 0 0 ∙ at first row plane 1 0 0 (first + 1) (omega arith)) t)
    ∷ flag (sym (leaf 1 0 1 ∙ at first row plane 1 0 1 (first + 1 + plane) (omega arith)) t)
    ∷ flag (sym (leaf 1 1 0 ∙ at first row plane 1 1 0 (first + 1 + row) (omega arith)) t)
    ∷ flag (sym (leaf 1 1 1 ∙ at first row plane 1 1 1 (first + 1 + row + plane) (omega arith)) t)
    ∷ [])
  where
    at : (first row plane x y z there : ℕ) → first + (x + (y * row + z * plane)) ≡ there → first + (x + (y * row + z * plane)) ≡ there
    at first row plane x y z there e = e

pub row-is : (b : Bounds) (flags : List Bool) (j k : ℕ) → b.y0 ≤ j → b.z0 ≤ k
    → map (λ i. mixed_from flags (size_x b) (plane_size b) (index_at b b.x0 j k + i)) (range_with_len 0 (cubes_x b))
    ≡ map (λ at. is_mixed (corner_flags b flags at)) (lowest_in_row b j k)
row-is b flags j k lj lk =
    map-same (λ i. mixed_from flags (size_x b) (plane_size b) (index_at b b.x0 j k + i)) (λ i. is_mixed (corner_flags b flags (place (b.x0 + i) j k))) 0 (cubes_x b)
    (λ i _ _. one-cube b flags i j k lj lk)
    ∙ sym (ap (λ n. map (λ i. is_mixed (corner_flags b flags (place i j k))) (range_with_len n (cubes_x b))) {x = b.x0} {y = b.x0 + 0} (omega arith)
    ∙ map-from (λ i. is_mixed (corner_flags b flags (place i j k))) b.x0 0 (cubes_x b))
    ∙ sym (map-map (λ at. is_mixed (corner_flags b flags at)) (λ i. place i j k) (range_with_len b.x0 (cubes_x b)))

-- its last cube's last corner is a point
pub row-within : (b : Bounds) (j k : ℕ) → IsExtent b → HasNext b.y0 b.y1 j → HasNext b.z0 b.z1 k
    → index_at b b.x0 j k + cubes_x b + size_x b + plane_size b < count_of b
row-within b j k is hj hk =
    let order = is.x.order in
    let lj = hj.at_least in
    let mj = hj.below in
    let lk = hk.at_least in
    let mk = hk.below in
    let has : Has b b.x1 (j + 1) (k + 1) = record {
      x = record { at_least = omega arith; at_most = omega arith };
      y = record { at_least = omega arith; at_most = omega arith };
      z = record { at_least = omega arith; at_most = omega arith };
    } in
    let below = index_at_below b b.x1 (j + 1) (k + 1) has in
    let e0 : b.x0 - b.x0 ≡ 0 = omega arith in
    let ey : j + 1 - b.y0 ≡ j - b.y0 + 1 = omega (arith, lj) in
    let ez : k + 1 - b.z0 ≡ k - b.z0 + 1 = omega (arith, lk) in
    let last : index_at b b.x1 (j + 1) (k + 1) ≡ index_at b b.x0 j k + cubes_x b + size_x b + plane_size b =
    ap₂ (λ m n. (b.x1 - b.x0) + m * size_x b + n * plane_size b) ey ez
    ∙ sums (j - b.y0) (k - b.z0) (cubes_x b) (size_x b) (plane_size b)
    ∙ ap (λ n. n + (j - b.y0) * size_x b + (k - b.z0) * plane_size b + cubes_x b + size_x b + plane_size b) (sym e0) in
    omega (arith, last, below)
  where
    sums : (m n x row plane : ℕ) → x + (m + 1) * row + (n + 1) * plane ≡ 0 + m * row + n * plane + x + row + plane
    sums m n x row plane = omega arith

across : (b : Bounds) → b.x1 - b.x0 + 1 - 1 ≡ cubes_x b
across b = omega arith

-- the same, by the bounds that an extent gives
pub bounds-within : (b : Bounds) (ns : List ℕ) (first count j k : ℕ) → IsExtent b → HasNext b.y0 b.y1 j → HasNext b.z0 b.z1 k → ns ≡ numbers_of b
    → first ≡ index_at b (get_or ns 0 0) j k → count ≡ count_of b
    → first + (get_or ns 1 0 - get_or ns 0 0 + 1 - 1) + (get_or ns 1 0 - get_or ns 0 0 + 1)
    + (get_or ns 1 0 - get_or ns 0 0 + 1) * (get_or ns 3 0 - get_or ns 2 0 + 1) < count
bounds-within b ns first count j k is hj hk en ef ec =
    subst (λ ms. first ≡ index_at b (get_or ms 0 0) j k → first + (get_or ms 1 0 - get_or ms 0 0 + 1 - 1) + (get_or ms 1 0 - get_or ms 0 0 + 1)
    + (get_or ms 1 0 - get_or ms 0 0 + 1) * (get_or ms 3 0 - get_or ms 2 0 + 1) < count) (sym en)
    (λ e.
    let within = row-within b j k is hj hk in
    let across : b.x1 - b.x0 + 1 - 1 ≡ cubes_x b = omega arith in
    subst (λ n. first + n + size_x b + plane_size b < count) (sym across)
    (subst (λ n. n + cubes_x b + size_x b + plane_size b < count) (sym e) (subst (λ n. index_at b b.x0 j k + cubes_x b + size_x b + plane_size b < n) (sym ec) within)))
    ef

pub bounds-row : (b : Bounds) (flags old new : List Bool) (ns : List ℕ) (first j k : ℕ) → b.y0 ≤ j → b.z0 ≤ k → ns ≡ numbers_of b → first ≡ index_at b (get_or ns 0 0) j k
    → new ≡ old ++ map (λ i. mixed_from flags (get_or ns 1 0 - get_or ns 0 0 + 1) ((get_or ns 1 0 - get_or ns 0 0 + 1) * (get_or ns 3 0 - get_or ns 2 0 + 1)) (first + i))
    (range_with_len 0 (get_or ns 1 0 - get_or ns 0 0 + 1 - 1))
    → new ≡ old ++ map (λ at. is_mixed (corner_flags b flags at)) (lowest_in_row b j k)
bounds-row b flags old new ns first j k lj lk en ef is =
    is
    ∙ ap (λ t. old ++ t)
    (subst (λ ms. first ≡ index_at b (get_or ms 0 0) j k
    → map (λ i. mixed_from flags (get_or ms 1 0 - get_or ms 0 0 + 1) ((get_or ms 1 0 - get_or ms 0 0 + 1) * (get_or ms 3 0 - get_or ms 2 0 + 1)) (first + i))
    (range_with_len 0 (get_or ms 1 0 - get_or ms 0 0 + 1 - 1)) ≡ map (λ at. is_mixed (corner_flags b flags at)) (lowest_in_row b j k)) (sym en)
    (λ e.
    ap₂ (λ f n. map (λ i. mixed_from flags (size_x b) (plane_size b) (f + i)) (range_with_len 0 n)) e (across b)
    ∙ row-is b flags j k lj lk)
    ef)
