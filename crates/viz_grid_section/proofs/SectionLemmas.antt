-- The cells of all cubes, by rows and layers of them.
use Rattle.std.proofs.Common.{◌≡◌, ℕ, zero, suc, ◌+◌, ◌-◌, ◌*◌, ◌<◌, ◌≤◌, ◌^◌, List, [], ◌∷◌, ◌++◌, Bool, refl, sym, ap, ◌∙◌, append_assoc, append-nil, add-zero, arith, slice_index}
use Rattle.std.specs.Prelude.{map}
use Rattle.std.proofs.Math.Nat.{mul-le-mul_right}
use Rattle.std.specs.List.{flat_map, range_with_len}
use Rattle.std.proofs.lemmas.Grind.{flat_map-append}
use Rattle.std.proofs.lemmas.List.Folds.{flat_map-map}
use Rattle.viz_extent.specs.Extent.{Bounds, size_x, plane_size, count_of, numbers_of}
use Rattle.viz_kuhn.specs.Corners.{Corner, corner}
use Rattle.viz_kuhn.specs.Kuhn.{Row, rows}
use Rattle.viz_kuhn.specs.Places.{Place, place, place_of}
use Rattle.viz_kuhn.specs.Cubes.{cubes_x, cubes_y, cubes_z, leaf_of, six_at, all_lowest, lowest_in_row, lowest_in_layer}
use Rattle.viz_grid_section.specs.Edges.{Edge}
use Rattle.viz_grid_section.specs.GridSection.{cells_in, grid_cells}
use Rattle.viz_grid_section.specs.Steps.Rows.{eight_from, six_of, cells_between, cells_in_row, cells_in_layer, cells_in_layers}

-- one more number of a range
flat_map-range_more : {A : Type 0} (f : ℕ → List A) (a n : ℕ)
    → flat_map f (range_with_len a (n + 1)) ≡ flat_map f (range_with_len a n) ++ f (a + n)
flat_map-range_more f a zero = rw add-zero (append-nil (f a))
flat_map-range_more f a (suc n) =
    let next : a + 1 + n ≡ a + suc n = omega arith in
    let longer : suc n + 1 ≡ suc (n + 1) = omega arith in
    ap (λ k. flat_map f (range_with_len a k)) longer
    ∙ ap (λ t. f a ++ t) (flat_map-range_more f (a + 1) n)
    ∙ sym (append_assoc (f a) (flat_map f (range_with_len (a + 1) n)) (f (a + 1 + n)))
    ∙ ap (λ k. (f a ++ flat_map f (range_with_len (a + 1) n)) ++ f k) next

-- a list that grows by pieces of a range
grown : {A : Type 0} (f : ℕ → List A) (n : ℕ) (t0 t1 t2 : List A)
    → t1 ≡ t0 ++ flat_map f (range_with_len 0 n)
    → t2 ≡ t1 ++ f n
    → t2 ≡ t0 ++ flat_map f (range_with_len 0 (n + 1))
grown f n t0 t1 t2 p q =
    let zero_more : 0 + n ≡ n = omega arith in
    q ∙ ap (λ t. t ++ f n) p ∙ append_assoc t0 (flat_map f (range_with_len 0 n)) (f n)
    ∙ ap (λ t. t0 ++ t) (sym (flat_map-range_more f 0 n ∙ ap (λ k. flat_map f (range_with_len 0 n) ++ f k) zero_more))

-- a row of no cube has no cell
pub row-none : (inside : List Bool) (row plane first : ℕ) (t : List (List Edge)) → t ≡ t ++ cells_in_row inside row plane 0 first
unfolding cells_in_row
row-none inside row plane first t = sym (append-nil t)

-- one more cube of a row
pub row-more : (inside : List Bool) (row plane i first : ℕ) (t0 t1 t2 : List (List Edge))
    → t1 ≡ t0 ++ cells_in_row inside row plane i first
    → t2 ≡ t1 ++ cells_between inside (eight_from (first + i) row plane)
    → t2 ≡ t0 ++ cells_in_row inside row plane (i + 1) first
unfolding cells_in_row
row-more inside row plane i first t0 t1 t2 p q =
    grown (λ i. cells_between inside (eight_from (first + i) row plane)) i t0 t1 t2 p q

-- a layer of no row has no cell
pub layer-none : (inside : List Bool) (row plane across_x first : ℕ) (t : List (List Edge))
    → t ≡ t ++ cells_in_layer inside row plane across_x 0 first
unfolding cells_in_layer
layer-none inside row plane across_x first t = sym (append-nil t)

-- one more row of a layer
pub layer-more : (inside : List Bool) (row plane across_x j first : ℕ) (t0 t1 t2 : List (List Edge))
    → t1 ≡ t0 ++ cells_in_layer inside row plane across_x j first
    → t2 ≡ t1 ++ cells_in_row inside row plane across_x (first + j * row)
    → t2 ≡ t0 ++ cells_in_layer inside row plane across_x (j + 1) first
unfolding cells_in_layer
layer-more inside row plane across_x j first t0 t1 t2 p q =
    grown (λ j. cells_in_row inside row plane across_x (first + j * row)) j t0 t1 t2 p q

-- no layer has no cell
pub layers-none : (inside : List Bool) (row plane across_x across_y : ℕ)
    → [] ≡ cells_in_layers inside row plane across_x across_y 0
unfolding cells_in_layers
layers-none inside row plane across_x across_y = refl

-- one more layer
pub layers-more : (inside : List Bool) (row plane across_x across_y k : ℕ) (t1 t2 : List (List Edge))
    → t1 ≡ cells_in_layers inside row plane across_x across_y k
    → t2 ≡ t1 ++ cells_in_layer inside row plane across_x across_y (k * plane)
    → t2 ≡ cells_in_layers inside row plane across_x across_y (k + 1)
unfolding cells_in_layers
layers-more inside row plane across_x across_y k t1 t2 p q =
    grown (λ k. cells_in_layer inside row plane across_x across_y (k * plane)) k [] t1 t2 p q

-- pieces of pieces
pub flat_map-flat_map : {A B C : Type 0} (f : B → List C) (g : A → List B) (xs : List A)
    → flat_map f (flat_map g xs) ≡ flat_map (λ x. flat_map f (g x)) xs
flat_map-flat_map f g [] = refl
flat_map-flat_map f g (x ∷ xs) =
    flat_map-append f (g x) (flat_map g xs) ∙ ap (λ t. flat_map f (g x) ++ t) (flat_map-flat_map f g xs)

-- equal pieces
pub flat_map-same : {A B : Type 0} (f g : A → List B) → ((x : A) → f x ≡ g x) → (xs : List A) → flat_map f xs ≡ flat_map g xs
flat_map-same f g same [] = refl
flat_map-same f g same (x ∷ xs) =
    ap (λ t. t ++ flat_map f xs) (same x) ∙ ap (λ t. g x ++ t) (flat_map-same f g same xs)

-- a range from a number on, counted from there
flat_map-range_from : {A : Type 0} (f : ℕ → List A) (a s n : ℕ)
    → flat_map f (range_with_len (a + s) n) ≡ flat_map (λ r. f (a + r)) (range_with_len s n)
flat_map-range_from f a s zero = refl
flat_map-range_from f a s (suc n) =
    let next : a + s + 1 ≡ a + (s + 1) = omega arith in
    ap (λ k. f (a + s) ++ flat_map f (range_with_len k n)) next
    ∙ ap (λ t. f (a + s) ++ t) (flat_map-range_from f a (s + 1) n)

-- so from zero
flat_map-range : {A : Type 0} (f g : ℕ → List A) (a n : ℕ) → ((r : ℕ) → f (a + r) ≡ g r)
    → flat_map f (range_with_len a n) ≡ flat_map g (range_with_len 0 n)
flat_map-range f g a n same =
    let here : a ≡ a + 0 = omega arith in
    ap (λ k. flat_map f (range_with_len k n)) here
    ∙ flat_map-range_from f a 0 n
    ∙ flat_map-same (λ r. f (a + r)) g same (range_with_len 0 n)

-- the six tetrahedra by the leaves at the eight corners
six-by_leaves : (f : Corner → ℕ) (a b c d e g h i : ℕ)
    → f (corner 0 0 0) ≡ a → f (corner 0 0 1) ≡ b → f (corner 0 1 0) ≡ c → f (corner 0 1 1) ≡ d
    → f (corner 1 0 0) ≡ e → f (corner 1 0 1) ≡ g → f (corner 1 1 0) ≡ h → f (corner 1 1 1) ≡ i
    → map (λ (r : Row). map f r.corners) rows ≡ six_of (a ∷ b ∷ c ∷ d ∷ e ∷ g ∷ h ∷ i ∷ [])
unfolding rows
six-by_leaves f a b c d e g h i p q r s t u v w = cc

-- a difference from a bound
above : (x i c : ℕ) → x + i + c - x ≡ i + c
above x i c = omega arith

-- a leaf by the steps from the lowest corner of all
leaf-steps : (b : Bounds) (i j k x y z : ℕ)
    → leaf_of b (place_of (place (b.x0 + i) (b.y0 + j) (b.z0 + k)) (corner x y z))
    ≡ (i + x) + (j + y) * size_x b + (k + z) * plane_size b
leaf-steps b i j k x y z =
    let row = size_x b in
    let plane = plane_size b in
    ap (λ n. n + (b.y0 + j + y - b.y0) * row + (b.z0 + k + z - b.z0) * plane) (above b.x0 i x)
    ∙ ap (λ n. (i + x) + n * row + (b.z0 + k + z - b.z0) * plane) (above b.y0 j y)
    ∙ ap (λ n. (i + x) + (j + y) * row + n * plane) (above b.z0 k z)

-- the leaves at the eight corners, by bits x y z
steps_0 : (i j k row plane : ℕ) → (i + 0) + (j + 0) * row + (k + 0) * plane ≡ k * plane + j * row + i
steps_0 i j k row plane = omega arith

steps_1 : (i j k row plane : ℕ) → (i + 0) + (j + 0) * row + (k + 1) * plane ≡ k * plane + j * row + i + plane
steps_1 i j k row plane = omega arith

steps_2 : (i j k row plane : ℕ) → (i + 0) + (j + 1) * row + (k + 0) * plane ≡ k * plane + j * row + i + row
steps_2 i j k row plane = omega arith

steps_3 : (i j k row plane : ℕ) → (i + 0) + (j + 1) * row + (k + 1) * plane ≡ k * plane + j * row + i + row + plane
steps_3 i j k row plane = omega arith

steps_4 : (i j k row plane : ℕ) → (i + 1) + (j + 0) * row + (k + 0) * plane ≡ k * plane + j * row + i + 1
steps_4 i j k row plane = omega arith

steps_5 : (i j k row plane : ℕ) → (i + 1) + (j + 0) * row + (k + 1) * plane ≡ k * plane + j * row + i + 1 + plane
steps_5 i j k row plane = omega arith

steps_6 : (i j k row plane : ℕ) → (i + 1) + (j + 1) * row + (k + 0) * plane ≡ k * plane + j * row + i + 1 + row
steps_6 i j k row plane = omega arith

steps_7 : (i j k row plane : ℕ) → (i + 1) + (j + 1) * row + (k + 1) * plane ≡ k * plane + j * row + i + 1 + row + plane
steps_7 i j k row plane = omega arith

-- the tetrahedra of a cube by its place
six-at_place : (b : Bounds) (i j k : ℕ)
    → six_at b (place (b.x0 + i) (b.y0 + j) (b.z0 + k))
    ≡ six_of (eight_from (k * plane_size b + j * size_x b + i) (size_x b) (plane_size b))
six-at_place b i j k =
    let leaf = leaf-steps b i j k in
    six-by_leaves (λ c. leaf_of b (place_of (place (b.x0 + i) (b.y0 + j) (b.z0 + k)) c)) _ _ _ _ _ _ _ _
    (leaf 0 0 0 ∙ steps_0 i j k (size_x b) (plane_size b))
    (leaf 0 0 1 ∙ steps_1 i j k (size_x b) (plane_size b))
    (leaf 0 1 0 ∙ steps_2 i j k (size_x b) (plane_size b))
    (leaf 0 1 1 ∙ steps_3 i j k (size_x b) (plane_size b))
    (leaf 1 0 0 ∙ steps_4 i j k (size_x b) (plane_size b))
    (leaf 1 0 1 ∙ steps_5 i j k (size_x b) (plane_size b))
    (leaf 1 1 0 ∙ steps_6 i j k (size_x b) (plane_size b))
    (leaf 1 1 1 ∙ steps_7 i j k (size_x b) (plane_size b))

-- all layers have the cells of all tetrahedra
pub layers-section : (b : Bounds) (inside : List Bool)
    → cells_in_layers inside (size_x b) (plane_size b) (cubes_x b) (cubes_y b) (cubes_z b) ≡ grid_cells b inside
unfolding cells_in_layers cells_in_layer cells_in_row cells_between
layers-section b inside =
    let row = size_x b in
    let plane = plane_size b in
    let cells = cells_in inside in
    let at : Place → List (List Edge) = λ p. flat_map cells (six_at b p) in
    let here : (i j k : ℕ) → at (place (b.x0 + i) (b.y0 + j) (b.z0 + k)) ≡ cells_between inside (eight_from (k * plane + j * row + i) row plane) =
    λ i j k. ap (λ six. flat_map cells six) (six-at_place b i j k) in
    let along_x : (j k : ℕ) → flat_map at (lowest_in_row b (b.y0 + j) (b.z0 + k)) ≡ cells_in_row inside row plane (cubes_x b) (k * plane + j * row) =
    λ j k. flat_map-map at (λ i. place i (b.y0 + j) (b.z0 + k)) (range_with_len b.x0 (cubes_x b))
    ∙ flat_map-range (λ i. at (place i (b.y0 + j) (b.z0 + k))) (λ i. cells_between inside (eight_from (k * plane + j * row + i) row plane))
    b.x0 (cubes_x b) (λ i. here i j k) in
    let along_y : (k : ℕ) → flat_map at (lowest_in_layer b (b.z0 + k)) ≡ cells_in_layer inside row plane (cubes_x b) (cubes_y b) (k * plane) =
    λ k. flat_map-flat_map at (λ j. lowest_in_row b j (b.z0 + k)) (range_with_len b.y0 (cubes_y b))
    ∙ flat_map-range (λ j. flat_map at (lowest_in_row b j (b.z0 + k))) (λ j. cells_in_row inside row plane (cubes_x b) (k * plane + j * row))
    b.y0 (cubes_y b) (λ j. along_x j k) in
    sym (
    flat_map-flat_map cells (six_at b) (all_lowest b)
    ∙ flat_map-flat_map at (lowest_in_layer b) (range_with_len b.z0 (cubes_z b))
    ∙ flat_map-range (λ k. flat_map at (lowest_in_layer b k)) (λ k. cells_in_layer inside row plane (cubes_x b) (cubes_y b) (k * plane))
    b.z0 (cubes_z b) along_y
    )

-- a layer ends two planes before the last
pub step_below : (k p n count : ℕ) → k < n → p * (n + 1) ≡ count → k * p + 2 * p ≤ count
step_below k p n count below is =
    let steps : (k + 1) * p ≤ n * p = mul-le-mul_right p (omega arith) in
    omega arith

-- a row ends two rows before the plane does
pub row_below : (j row n : ℕ) → j < n → j * row + 2 * row ≤ row * (n + 1)
row_below j row n below = step_below j row n (row * (n + 1)) below refl

-- the row of an extent by its numbers
abbrev row_in : List ℕ → ℕ
row_in numbers = slice_index numbers 1 - slice_index numbers 0 + 1

-- the plane of an extent by its numbers
abbrev plane_in : List ℕ → ℕ
plane_in numbers = row_in numbers * (slice_index numbers 3 - slice_index numbers 2 + 1)

-- how many layers of cubes there are
abbrev layers_in : List ℕ → ℕ
layers_in numbers = slice_index numbers 5 - slice_index numbers 4

-- a layer of the extent with these numbers lies within its points
pub layer-within : (numbers : List ℕ) (b : Bounds) (k count : ℕ) → numbers ≡ numbers_of b → count ≡ count_of b → k < layers_in numbers
    → k * plane_in numbers + 2 * plane_in numbers ≤ count
layer-within numbers b k count is all below =
    let below_last : k < b.z1 - b.z0 = rw is at below in
    rw is (step_below k (plane_size b) (b.z1 - b.z0) count below_last (sym all))

-- and its first leaf is narrow
pub layer-narrow : (numbers : List ℕ) (b : Bounds) (k : ℕ) → numbers ≡ numbers_of b → count_of b < 2 ^ 31 → k < layers_in numbers
    → k * plane_in numbers < 2 ^ 32
layer-narrow numbers b k is most below =
    let step = layer-within numbers b k (count_of b) is refl below in
    omega arith

-- all layers of the extent with these numbers are the section
pub layers-are : (numbers : List ℕ) (b : Bounds) (inside : List Bool) (k : ℕ) (t : List (List Edge)) → numbers ≡ numbers_of b
    → k ≡ layers_in numbers
    → t ≡ cells_in_layers inside (row_in numbers) (plane_in numbers) (slice_index numbers 1 - slice_index numbers 0) (slice_index numbers 3 - slice_index numbers 2) k
    → t ≡ grid_cells b inside
layers-are numbers b inside k t is last so_far =
    let at_last = rw last at so_far in
    let of_bounds = rw is at at_last in
    of_bounds ∙ layers-section b inside
