-- No two tetrahedra of a grid have the same leaves.
use Rattle.std.proofs.Common.{◌≡◌, ℕ, ◌+◌, ◌<◌, ◌≤◌, ◌==◌, Bool, true, false, cond, List, [], ◌∷◌, get_or, refl, sym, ap, ◌∙◌, zero, suc, arith}
use Rattle.std.specs.Prelude.{sum_by}
use Rattle.std.specs.List.{All}
use Rattle.std.proofs.lemmas.Bool.Decides.{nat_tests, same_from_decides, Decides-eqb, Decides-like}
use Rattle.std.proofs.lemmas.List.Elements.{All-head, All-tail}
use Rattle.std.proofs.lemmas.List.Sums.{sum_by-cons}
use Rattle.viz_extent.specs.Extent.{Bounds}
use Rattle.viz_kuhn.specs.Corners.{Corner, corner}
use Rattle.viz_kuhn.specs.Kuhn.{Row, rows}
use Rattle.viz_kuhn.specs.Places.{Place, place, place_of}
use Rattle.viz_kuhn.specs.Cubes.{all_lowest, leaves_of, six_at}
use Rattle.viz_surface_law.specs.Facets.{has_facet, sharing}
use Rattle.viz_surface_law.proofs.Sharing.ListCounts.{sum_by-flat_map, sum_by-map, sum_by-same, positive, by_test}
use Rattle.viz_surface_law.proofs.Sharing.CubeSums.{cubes_at, has_at, same_place}
use Rattle.viz_surface_law.proofs.Sharing.FacetTable.{facet, is_chain}
use Rattle.viz_surface_law.proofs.Sharing.GridFacets.{Bits, In, SamePlace, ascends, chain_tells, corner_has, leaf_at, leaf_from, leaf_tells, low_corner, lowest_in, place-decides}

-- ---- one tetrahedron

-- whether the least three of its leaves are given ones
abbrev starts_with : ℕ → ℕ → ℕ → ℕ → ℕ → ℕ → ℕ
starts_with A B C p q r = cond (A == p) (cond (B == q) (cond (C == r) 1 0) 0) 0

in_even : (A B C D p q r t : ℕ) → A < B → B < C → C < D → p < q → q < r → r < t
    → cond {A = ℕ} (has_facet (p ∷ q ∷ r ∷ t ∷ []) (A ∷ B ∷ C ∷ D ∷ [])) 1 0 ≤ starts_with A B C p q r
in_even A B C D p q r t AB BC CD pq qr rt = grind (arith, nat_tests)

in_odd : (A B C D p q r t : ℕ) → A < B → B < C → C < D → p < q → q < r → r < t
    → cond {A = ℕ} (has_facet (p ∷ q ∷ r ∷ t ∷ []) (A ∷ C ∷ B ∷ D ∷ [])) 1 0 ≤ starts_with A B C p q r
in_odd A B C D p q r t AB BC CD pq qr rt = grind (arith, nat_tests)

-- its corners in ascending order, whatever their order in the list
abbrev StartLaw : (Corner → Corner → Corner → Corner → List Corner) → Type 0
StartLaw listed = (b : Bounds) (x : Place) (k l m n : Corner) → In b x
    → is_chain (facet true k l m) ≡ true → is_chain (facet true l m n) ≡ true
    → (p q r t : ℕ) → p < q → q < r → r < t
    → cond {A = ℕ} (has_facet (p ∷ q ∷ r ∷ t ∷ []) (leaves_of b x (listed k l m n))) 1 0
    ≤ starts_with (leaf_at b x k) (leaf_at b x l) (leaf_at b x m) p q r

four_even : StartLaw (λ k l m n. k ∷ l ∷ m ∷ n ∷ [])
four_even b x k l m n inn klm lmn p q r t pq qr rt =
    let first = ascends b x (facet true k l m) inn (chain_tells _ klm) in
    let last = ascends b x (facet true l m n) inn (chain_tells _ lmn) in
    in_even (leaf_at b x k) (leaf_at b x l) (leaf_at b x m) (leaf_at b x n) p q r t first.ab first.bc last.bc pq qr rt

four_odd : StartLaw (λ k l m n. k ∷ m ∷ l ∷ n ∷ [])
four_odd b x k l m n inn klm lmn p q r t pq qr rt =
    let first = ascends b x (facet true k l m) inn (chain_tells _ klm) in
    let last = ascends b x (facet true l m n) inn (chain_tells _ lmn) in
    in_odd (leaf_at b x k) (leaf_at b x l) (leaf_at b x m) (leaf_at b x n) p q r t first.ab first.bc last.bc pq qr rt

-- ---- the six of one cube

-- one of two different numbers at most is a given one
two_differ : (C D r : ℕ) → (C ≡ D → ⊥) → cond {A = ℕ} (C == r) 1 0 + cond (D == r) 1 0 ≤ 1
two_differ C D r apart = grind (arith, nat_tests, apart)

three_differ : (X Y Z q k l m : ℕ) → (X ≡ Y → ⊥) → (X ≡ Z → ⊥) → (Y ≡ Z → ⊥) → k ≤ 1 → l ≤ 1 → m ≤ 1
    → cond (X == q) k 0 + cond (Y == q) l 0 + cond (Z == q) m 0 ≤ 1
three_differ X Y Z q k l m xy xz yz k1 l1 m1 = grind (arith, nat_tests, xy, xz, yz)

-- the six differ in their second leaf or in their third
six_differ : (A X Y Z XY XZ YZ p q r : ℕ) → (X ≡ Y → ⊥) → (X ≡ Z → ⊥) → (Y ≡ Z → ⊥) → (XY ≡ XZ → ⊥) → (XY ≡ YZ → ⊥) → (XZ ≡ YZ → ⊥)
    → starts_with A X XY p q r + starts_with A X XZ p q r + starts_with A Y XY p q r + starts_with A Y YZ p q r + starts_with A Z XZ p q r + starts_with A Z YZ p q r
    ≤ cond (A == p) 1 0
six_differ A X Y Z XY XZ YZ p q r x_y x_z y_z xy_xz xy_yz xz_yz = by_test (A == p) is isnt
  where
    c : ℕ → ℕ
    c n = cond (n == r) 1 0

    split : (t : Bool) (k l : ℕ) → cond t k 0 + cond t l 0 ≡ cond t (k + l) 0
    split true k l = refl
    split false k l = refl

    is : (A == p) ≡ true → starts_with A X XY p q r + starts_with A X XZ p q r + starts_with A Y XY p q r + starts_with A Y YZ p q r + starts_with A Z XZ p q r + starts_with A Z YZ p q r
        ≤ cond (A == p) 1 0
    is e =
        let go : (t : Bool) (k : ℕ) → t ≡ true → cond t k 0 ≡ k = λ t k h. ap (λ u. cond u k 0) h in
        let at : ℕ → ℕ → ℕ = λ B C. cond (B == q) (cond (C == r) 1 0) 0 in
        omega (
          arith,
          go (A == p) (at X XY) e,
          go (A == p) (at X XZ) e,
          go (A == p) (at Y XY) e,
          go (A == p) (at Y YZ) e,
          go (A == p) (at Z XZ) e,
          go (A == p) (at Z YZ) e,
          go (A == p) 1 e,
          split (X == q) (cond (XY == r) 1 0) (cond (XZ == r) 1 0),
          split (Y == q) (cond (XY == r) 1 0) (cond (YZ == r) 1 0),
          split (Z == q) (cond (XZ == r) 1 0) (cond (YZ == r) 1 0),
          three_differ X Y Z q (cond (XY == r) 1 0 + cond (XZ == r) 1 0) (cond (XY == r) 1 0 + cond (YZ == r) 1 0) (cond (XZ == r) 1 0 + cond (YZ == r) 1 0) x_y x_z y_z
              (two_differ XY XZ r xy_xz) (two_differ XY YZ r xy_yz) (two_differ XZ YZ r xz_yz),
        )

    isnt : (A == p) ≡ false → starts_with A X XY p q r + starts_with A X XZ p q r + starts_with A Y XY p q r + starts_with A Y YZ p q r + starts_with A Z XZ p q r + starts_with A Z YZ p q r
        ≤ cond (A == p) 1 0
    isnt e =
        let go : (t : Bool) (k : ℕ) → t ≡ false → cond t k 0 ≡ 0 = λ t k h. ap (λ u. cond u k 0) h in
        let at : ℕ → ℕ → ℕ = λ B C. cond (B == q) (cond (C == r) 1 0) 0 in
        omega (arith, go (A == p) (at X XY) e, go (A == p) (at X XZ) e, go (A == p) (at Y XY) e, go (A == p) (at Y YZ) e, go (A == p) (at Z XZ) e, go (A == p) (at Z YZ) e)

bits : (x y z : ℕ) → x < 2 → y < 2 → z < 2 → Bits (corner x y z)
bits x y z hx hy hz = record { x = hx; y = hy; z = hz }

-- in how many tetrahedra of a cube four leaves lie
abbrev in_cube : Bounds → ℕ → ℕ → ℕ → ℕ → Place → ℕ
in_cube b p q r t x = sum_by (λ (row : Row). cond {A = ℕ} (has_facet (p ∷ q ∷ r ∷ t ∷ []) (leaves_of b x row.corners)) 1 0) rows

cube-once : (b : Bounds) (x : Place) → In b x → (p q r t : ℕ) → p < q → q < r → r < t → in_cube b p q r t x ≤ cond (leaf_at b x low_corner == p) 1 0
unfolding rows
cube-once b x inn p q r t pq qr rt =
    let at : Corner → ℕ = leaf_at b x in
    let X = corner 1 0 0 in
    let Y = corner 0 1 0 in
    let Z = corner 0 0 1 in
    let XY = corner 1 1 0 in
    let XZ = corner 1 0 1 in
    let YZ = corner 0 1 1 in
    let O = corner 0 0 0 in
    let I = corner 1 1 1 in
    let bX = bits 1 0 0 (omega arith) (omega arith) (omega arith) in
    let bY = bits 0 1 0 (omega arith) (omega arith) (omega arith) in
    let bZ = bits 0 0 1 (omega arith) (omega arith) (omega arith) in
    let bXY = bits 1 1 0 (omega arith) (omega arith) (omega arith) in
    let bXZ = bits 1 0 1 (omega arith) (omega arith) (omega arith) in
    let bYZ = bits 0 1 1 (omega arith) (omega arith) (omega arith) in
    let tell : (c d : Corner) → Bits c → Bits d → leaf_at b x c ≡ leaf_at b x d → SamePlace (place_of x c) (place_of x d) =
    λ c d bc bd e. leaf_tells b (place_of x c) (place_of x d) (corner_has b x c inn bc) (corner_has b x d inn bd) e in
    omega (
      arith,
      four_even b x O X XY I inn refl refl p q r t pq qr rt,
      four_odd b x O X XZ I inn refl refl p q r t pq qr rt,
      four_odd b x O Y XY I inn refl refl p q r t pq qr rt,
      four_even b x O Y YZ I inn refl refl p q r t pq qr rt,
      four_even b x O Z XZ I inn refl refl p q r t pq qr rt,
      four_odd b x O Z YZ I inn refl refl p q r t pq qr rt,
      six_differ (leaf_at b x O) (leaf_at b x X) (leaf_at b x Y) (leaf_at b x Z) (leaf_at b x XY) (leaf_at b x XZ) (leaf_at b x YZ) p q r
          (λ e. let s = tell X Y bX bY e in omega (arith, s.1.1))
          (λ e. let s = tell X Z bX bZ e in omega (arith, s.1.1))
          (λ e. let s = tell Y Z bY bZ e in omega (arith, s.0))
          (λ e. let s = tell XY XZ bXY bXZ e in omega (arith, s.0))
          (λ e. let s = tell XY YZ bXY bYZ e in omega (arith, s.0))
          (λ e. let s = tell XZ YZ bXZ bYZ e in omega (arith, s.1.1)),
    )

-- ---- all cubes

sum_by-most : {X : Type 0} (f g : X → ℕ) (xs : List X) → All (λ x. f x ≤ g x) xs → sum_by f xs ≤ sum_by g xs
sum_by-most f g [] each = omega arith
sum_by-most f g (x ∷ xs) each =
    omega (arith, sum_by-cons f x xs, sum_by-cons g x xs, All-head (λ y. f y ≤ g y) x xs each, sum_by-most f g xs (All-tail (λ y. f y ≤ g y) x xs each))

at_most_one : (t : Bool) → cond {A = ℕ} t 1 0 ≤ 1
at_most_one true = omega arith
at_most_one false = omega arith

-- how many cubes have a leaf at their lowest corner
abbrev lowest_at : Bounds → ℕ → ℕ
lowest_at b p = sum_by (λ x. cond {A = ℕ} (leaf_at b x low_corner == p) 1 0) (all_lowest b)

lowest-bits : Bits low_corner
lowest-bits = bits 0 0 0 (omega arith) (omega arith) (omega arith)

lowest-once : (b : Bounds) (p : ℕ) → lowest_at b p ≤ 1
lowest-once b p = cases (lowest_at b p) refl
  where
    hit : Place → ℕ
    hit x = cond {A = ℕ} (leaf_at b x low_corner == p) 1 0

    cases : (n : ℕ) → lowest_at b p ≡ n → lowest_at b p ≤ 1
    cases zero e = omega (arith, e)
    cases (suc n) e =
        let at = positive (λ x. cond {A = ℕ} (leaf_at b x low_corner == p) 1 0) (all_lowest b) (place 0 0 0) (omega (arith, e)) in
        let y = get_or (all_lowest b) at.0 (place 0 0 0) in
        let iy = lowest_in b at.0 (place 0 0 0) at.1 in
        let is : (leaf_at b y low_corner == p) ≡ true = by_test (leaf_at b y low_corner == p) (λ h. h) (λ miss. absurd (omega (arith, at.2, ap (λ t. cond {A = ℕ} t 1 0) miss))) in
        let same : leaf_at b y low_corner ≡ p = (Decides-eqb (leaf_at b y low_corner) p).0 is in
        let each = sum_by-same (λ x. cond {A = ℕ} (leaf_at b x low_corner == p) 1 0) (λ x. cond {A = ℕ} (same_place (place_of x low_corner) (place_of y low_corner)) 1 0) (all_lowest b)
        (λ k d less.
        let x = get_or (all_lowest b) k d in
        let ix = lowest_in b k d less in
        ap (λ t. cond {A = ℕ} t 1 0)
        (same_from_decides (leaf_at b x low_corner == p) (same_place (place_of x low_corner) (place_of y low_corner))
        (Decides-like (leaf_at b x low_corner == p)
        (λ h. leaf_tells b (place_of x low_corner) (place_of y low_corner) (corner_has b x low_corner ix lowest-bits) (corner_has b y low_corner iy lowest-bits) (h ∙ sym same))
        (λ s. leaf_from b (place_of x low_corner) (place_of y low_corner) s ∙ same)
        (Decides-eqb (leaf_at b x low_corner) p))
        (place-decides (place_of x low_corner) (place_of y low_corner)))) in
        omega (arith, each, cubes_at b low_corner (place_of y low_corner), at_most_one (has_at b low_corner (place_of y low_corner)))

pub tetrahedra-differ : (b : Bounds) (p q r t : ℕ) → p < q → q < r → r < t → sharing b (p ∷ q ∷ r ∷ t ∷ []) ≤ 1
tetrahedra-differ b p q r t pq qr rt =
    let has : List ℕ → ℕ = λ cell. cond {A = ℕ} (has_facet (p ∷ q ∷ r ∷ t ∷ []) cell) 1 0 in
    let cubes = sum_by-flat_map has (six_at b) (all_lowest b) in
    let each = sum_by-same (λ x. sum_by has (six_at b x)) (in_cube b p q r t) (all_lowest b) (λ k d less. sum_by-map has (λ (row : Row). leaves_of b (get_or (all_lowest b) k d) row.corners) rows) in
    let most = sum_by-most (in_cube b p q r t) (λ x. cond {A = ℕ} (leaf_at b x low_corner == p) 1 0) (all_lowest b)
    (λ k d less. cube-once b (get_or (all_lowest b) k d) (lowest_in b k d less) p q r t pq qr rt) in
    omega (arith, cubes, each, most, lowest-once b p)
