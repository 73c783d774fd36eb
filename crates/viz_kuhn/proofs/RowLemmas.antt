-- What holds of each row, each corner and each pair of four corners.
use Rattle.std.proofs.Common.{◌≡◌, ℕ, zero, suc, ◌+◌, ◌<◌, List, [], ◌∷◌, Bool, false, inl, inr, refl, ap, sym, ◌∙◌, length, get_or, arith}
use Rattle.std.proofs.lemmas.List.{length-map, get_or-map}
use Rattle.std.proofs.lemmas.Int.{ints}
use Rattle.std.specs.Prelude.{All, AllPairs, map, pos, ◌-ℤ◌}
use Rattle.viz_kuhn.specs.Corners.{Corner, corner, corner_of, plus, IsCorner, IsStep, IsEdge}
use Rattle.viz_kuhn.specs.Kuhn.{Row, row, rows, row_at, corners_of}
use Rattle.viz_kuhn.specs.Places.{Place, place, place_of, sixths}

-- what holds of six numbers holds of each below six
pub below_six : (P : ℕ → Type 0) → P 0 → P 1 → P 2 → P 3 → P 4 → P 5 → (p : ℕ) → p < 6 → P p
below_six P a b c d e f zero below = a
below_six P a b c d e f (suc zero) below = b
below_six P a b c d e f (suc (suc zero)) below = c
below_six P a b c d e f (suc (suc (suc zero))) below = d
below_six P a b c d e f (suc (suc (suc (suc zero)))) below = e
below_six P a b c d e f (suc (suc (suc (suc (suc zero))))) below = f
below_six P a b c d e f (suc (suc (suc (suc (suc (suc p)))))) below = absurd (omega arith)

-- a table that has the corners of all rows has those of row p at p
pub corners-in_table : (table : List (List ℕ)) → map (map corner_of) table ≡ map (λ (r : Row). r.corners) rows
    → (p : ℕ) → p < 6 → map corner_of (get_or table p []) ≡ corners_of p
unfolding rows
corners-in_table table same p below =
    let all : length table ≡ 6 = sym (length-map table (map corner_of)) ∙ ap length same in
    sym (get_or-map (map corner_of) table p [] [] (omega (arith, all)))
    ∙ ap (λ items. get_or items p []) same
    ∙ get_or-map (λ (r : Row). r.corners) rows p (row [] false []) [] below

-- a table that has the flags of all rows has that of row p at p
pub flag-in_table : (table : List Bool) → table ≡ map (λ (r : Row). r.even) rows
    → (p : ℕ) → p < 6 → get_or table p false ≡ (row_at p).even
unfolding rows
flag-in_table table same p below =
    ap (λ items. get_or items p false) same
    ∙ get_or-map (λ (r : Row). r.even) rows p (row [] false []) false below

-- what holds of 0 and 1 holds of each number below two
below_two : (P : ℕ → Type 0) → P 0 → P 1 → (n : ℕ) → n < 2 → P n
below_two P a b zero below = a
below_two P a b (suc zero) below = b
below_two P a b (suc (suc n)) below = absurd (omega arith)

-- what holds of the eight corners holds of each
pub each_corner : (P : Corner → Type 0)
    → P (corner 0 0 0) → P (corner 0 0 1) → P (corner 0 1 0) → P (corner 0 1 1)
    → P (corner 1 0 0) → P (corner 1 0 1) → P (corner 1 1 0) → P (corner 1 1 1)
    → (c : Corner) → IsCorner c → P c
each_corner P a b c d e f g h at is =
    let along_z : (x y : ℕ) → P (corner x y 0) → P (corner x y 1) → P (corner x y at.z) =
    λ x y low high. below_two (λ z. P (corner x y z)) low high at.z is.z in
    let along_y : (x : ℕ) → P (corner x 0 at.z) → P (corner x 1 at.z) → P (corner x at.y at.z) =
    λ x low high. below_two (λ y. P (corner x y at.z)) low high at.y is.y in
    below_two (λ x. P (corner x at.y at.z))
    (along_y 0 (along_z 0 0 a b) (along_z 0 1 c d))
    (along_y 1 (along_z 1 0 e f) (along_z 1 1 g h)) at.x is.x

-- what holds of four corners holds of each in their list
pub all_four : (P : Corner → Type 0) (a b c d : Corner) → P a → P b → P c → P d
    → All P (a ∷ b ∷ c ∷ d ∷ [])
all_four P a b c d e f g h zero default within = e
all_four P a b c d e f g h (suc zero) default within = f
all_four P a b c d e f g h (suc (suc zero)) default within = g
all_four P a b c d e f g h (suc (suc (suc zero))) default within = h
all_four P a b c d e f g h (suc (suc (suc (suc k)))) default within = absurd (omega arith)

-- what holds of the six pairs of four corners holds of each pair in their list
pub pairs_of_four : (R : Corner → Corner → Type 0) (a b c d : Corner)
    → R a b → R a c → R a d → R b c → R b d → R c d → AllPairs R (a ∷ b ∷ c ∷ d ∷ [])
pairs_of_four R a b c d e f g h i j zero zero default order within = absurd (omega arith)
pairs_of_four R a b c d e f g h i j zero (suc zero) default order within = e
pairs_of_four R a b c d e f g h i j zero (suc (suc zero)) default order within = f
pairs_of_four R a b c d e f g h i j zero (suc (suc (suc zero))) default order within = g
pairs_of_four R a b c d e f g h i j (suc zero) zero default order within = absurd (omega arith)
pairs_of_four R a b c d e f g h i j (suc zero) (suc zero) default order within = absurd (omega arith)
pairs_of_four R a b c d e f g h i j (suc zero) (suc (suc zero)) default order within = h
pairs_of_four R a b c d e f g h i j (suc zero) (suc (suc (suc zero))) default order within = i
pairs_of_four R a b c d e f g h i j (suc (suc zero)) (suc (suc (suc zero))) default order within = j
pairs_of_four R a b c d e f g h i j m n default order within = absurd (omega arith)

-- the sum of steps is above the corner that they start from
pub up : {v : Corner} → (a : Corner) → IsStep v → IsEdge a (plus a v)
up {v} a is = inl (v, is, refl)

-- and the corner is below the sum
pub down : {v : Corner} → (a : Corner) → IsStep v → IsEdge (plus a v) a
down {v} a is = inr (v, is, refl)

-- an edge along an axis is the same wherever the cube lies
difference : (n a b : ℕ) → pos (n + b) -ℤ pos (n + a) ≡ pos (0 + b) -ℤ pos (0 + a)
difference n a b = omega (arith, ints)

-- a tetrahedron has the same volume wherever its cube lies
pub sixths-moved : (lowest : Place) (a b c d : Corner)
    → sixths (map (place_of lowest) (a ∷ b ∷ c ∷ d ∷ [])) ≡ sixths (map (place_of (place 0 0 0)) (a ∷ b ∷ c ∷ d ∷ []))
sixths-moved lowest a b c d =
    simp difference
