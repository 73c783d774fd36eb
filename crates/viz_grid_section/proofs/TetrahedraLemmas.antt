-- The tetrahedra of a grid have four leaves each, which are points of the grid.
use Rattle.std.proofs.Common.{◌≡◌, ℕ, suc, ◌+◌, ◌<◌, List, [], ◌∷◌, map, length, get_or, refl, sym, ap, subst, ◌∙◌, arith}
use Rattle.std.specs.List.{All, flat_map}
use Rattle.std.proofs.lemmas.List.Elements.{All-nil, All-append, All-map, All-head, All-tail}
use Rattle.viz_extent.specs.Extent.{Bounds, count_of}
use Rattle.viz_extent.proofs.NumberingLemmas.{index_at_below}
use Rattle.viz_kuhn.specs.Corners.{Corner, corner, IsCorner}
use Rattle.viz_kuhn.specs.Kuhn.{Row, rows}
use Rattle.viz_kuhn.specs.Places.{Place, place, place_of}
use Rattle.viz_kuhn.specs.Cubes.{HasCube, all_lowest, cubes_of, lowest_of, leaf_of, leaves_of, six_at, tetrahedra_of}
use Rattle.viz_kuhn.proofs.CubeLemmas.{length-all_lowest, numbers_each}
use Rattle.viz_kuhn.proofs.RowLemmas.{below_six, all_four}
use Rattle.std.proofs.lemmas.List.{get_or_default}

-- four leaves, each the number of a point
pub record IsTetrahedron (b : Bounds) (leaves : List ℕ) : Type 0 where
  pub four : length leaves ≡ 4
  pub within : All (λ leaf. leaf < count_of b) leaves

-- each item of pieces is one of a piece
pub All-flat_map : {X A : Type 0} (P : A → Type 0) (f : X → List A) (xs : List X) → All (λ x. All P (f x)) xs → All P (flat_map f xs)
All-flat_map P f [] each = All-nil P
All-flat_map {X} P f (x ∷ xs) each =
    All-append P (f x) (flat_map f xs) (All-head (λ y. All P (f y)) x xs each) (All-flat_map P f xs (All-tail (λ y. All P (f y)) x xs each))

-- a corner of a cube is a point of the grid
leaf_within : (b : Bounds) (at : Place) (c : Corner) → HasCube b at.i at.j at.k → IsCorner c → leaf_of b (place_of at c) < count_of b
leaf_within b at c has corner =
    let x = corner.x in
    let y = corner.y in
    let z = corner.z in
    index_at_below b (at.i + c.x) (at.j + c.y) (at.k + c.z)
    (record {
      x = record { at_least = omega arith; at_most = omega arith };
      y = record { at_least = omega arith; at_most = omega arith };
      z = record { at_least = omega arith; at_most = omega arith };
    })

-- a row of the table has four corners
abbrev IsRow : Row → Type 0
IsRow r = (length r.corners ≡ 4) × All IsCorner r.corners

bits : (x y z : ℕ) → x < 2 → y < 2 → z < 2 → IsCorner (corner x y z)
bits x y z px py pz = record { x = px; y = py; z = pz }

rows_are : All IsRow rows
unfolding rows
rows_are k d within =
    let o : 0 < 2 = omega arith in
    let i : 1 < 2 = omega arith in
    let low = bits 0 0 0 o o o in
    let high = bits 1 1 1 i i i in
    below_six (λ p. IsRow (get_or rows p d))
    (refl, all_four IsCorner _ _ _ _ low (bits 1 0 0 i o o) (bits 1 1 0 i i o) high)
    (refl, all_four IsCorner _ _ _ _ low (bits 1 0 1 i o i) (bits 1 0 0 i o o) high)
    (refl, all_four IsCorner _ _ _ _ low (bits 1 1 0 i i o) (bits 0 1 0 o i o) high)
    (refl, all_four IsCorner _ _ _ _ low (bits 0 1 0 o i o) (bits 0 1 1 o i i) high)
    (refl, all_four IsCorner _ _ _ _ low (bits 0 0 1 o o i) (bits 1 0 1 i o i) high)
    (refl, all_four IsCorner _ _ _ _ low (bits 0 1 1 o i i) (bits 0 0 1 o o i) high)
    k within

length-map_of : {X Y : Type 0} (f : X → Y) (xs : List X) → length (map f xs) ≡ length xs
length-map_of f [] = refl
length-map_of f (x ∷ xs) = ap (λ n. suc n) (length-map_of f xs)

row_in_cube : (b : Bounds) (at : Place) (corners : List Corner) → HasCube b at.i at.j at.k → length corners ≡ 4 → All IsCorner corners
    → IsTetrahedron b (leaves_of b at corners)
row_in_cube b at corners has four each =
    record {
      four = length-map_of (λ c. leaf_of b (place_of at c)) corners ∙ four;
      within = All-map (λ leaf. leaf < count_of b) (λ c. leaf_of b (place_of at c)) corners (λ k d less. leaf_within b at _ has (each k d less));
    }

-- all tetrahedra are
pub are_tetrahedra : (b : Bounds) → All (IsTetrahedron b) (tetrahedra_of b)
are_tetrahedra b =
    All-flat_map (IsTetrahedron b) (six_at b) (all_lowest b) (λ k d less.
    let at = get_or (all_lowest b) k d in
    let cube : k < cubes_of b = subst (λ n. k < n) (length-all_lowest b) less in
    let same : at ≡ lowest_of b k = get_or_default (all_lowest b) k d (place b.x1 b.y1 b.z1) less in
    let P : Place → Type 0 = λ (p : Place). HasCube b p.i p.j p.k in
    let has : HasCube b at.i at.j at.k = subst P (sym same) (numbers_each b k cube).0 in
    All-map (IsTetrahedron b) (λ (r : Row). leaves_of b at r.corners) rows (λ m e within. row_in_cube b at _ has (rows_are m e within).0 (rows_are m e within).1))
