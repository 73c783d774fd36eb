-- How many cubes have a corner at a place: one where the cube is there, else none.
use Rattle.std.proofs.Common.{◌≡◌, ℕ, zero, suc, ◌+◌, ◌==◌, Bool, true, false, cond, leb, ltb, ◌&&◌, refl, ap, ◌∙◌, arith}
use Rattle.std.specs.Prelude.{count_by}
use Rattle.std.specs.List.{range_with_len}
use Rattle.std.proofs.lemmas.List.Sums.{sum_by-cons}
use Rattle.std.proofs.lemmas.Bool.Decides.{nat_tests}
use Rattle.viz_extent.specs.Extent.{Bounds}
use Rattle.viz_kuhn.specs.Corners.{Corner}
use Rattle.viz_kuhn.specs.Places.{Place, place, place_of}
use Rattle.viz_kuhn.specs.Cubes.{cubes_x, cubes_y, cubes_z, lowest_in_row, lowest_in_layer, all_lowest}
use Rattle.viz_surface_law.proofs.Sharing.ListCounts.{count_by-flat_map, sum_by-map, sum_by-same, count_by-if, count_by-and}

-- whether an index less a step is among n from one on
abbrev pub is_in : ℕ → ℕ → ℕ → ℕ → Bool
is_in lo n step t = leb (lo + step) t && ltb t (lo + n + step)

abbrev pub same_place : Place → Place → Bool
same_place p q = (p.k == q.k) && ((p.j == q.j) && (p.i == q.i))

-- whether the cube is there that has this corner at a place
abbrev pub has_at : Bounds → Corner → Place → Bool
has_at b c t = is_in b.z0 (cubes_z b) c.z t.k && (is_in b.y0 (cubes_y b) c.y t.j && is_in b.x0 (cubes_x b) c.x t.i)

hits : (n lo step t : ℕ) → count_by (λ i. i + step == t) (range_with_len lo n) ≡ cond (is_in lo n step t) 1 0
hits zero lo step t = grind (arith, nat_tests)
hits (suc n) lo step t =
    let head = sum_by-cons (λ (i : ℕ). cond (i + step == t) 1 0) lo (range_with_len (lo + 1) n) in
    let tail = hits n (lo + 1) step t in
    head ∙ ap (λ m. cond (lo + step == t) 1 0 + m) tail ∙ here
  where
    here : cond (lo + step == t) 1 0 + cond (is_in (lo + 1) n step t) 1 0 ≡ cond (is_in lo (suc n) step t) 1 0
    here = grind (arith, nat_tests)

nested : (p q r : Bool) → cond {A = ℕ} p (cond q (cond r 1 0) 0) 0 ≡ cond (p && (q && r)) 1 0
nested true true r = refl
nested true false r = refl
nested false q r = refl

in_row : (b : Bounds) (c : Corner) (t : Place) (j k : ℕ)
    → count_by (λ (x : Place). same_place (place_of x c) t) (lowest_in_row b j k)
    ≡ cond ((k + c.z == t.k) && ((j + c.y == t.j) && is_in b.x0 (cubes_x b) c.x t.i)) 1 0
in_row b c t j k =
    let K = k + c.z == t.k in
    let J = j + c.y == t.j in
    let I : ℕ → Bool = λ i. i + c.x == t.i in
    let xs = range_with_len b.x0 (cubes_x b) in
    sum_by-map (λ (x : Place). cond (same_place (place_of x c) t) 1 0) (λ i. place i j k) xs
    ∙ count_by-if K (λ i. J && I i) xs
    ∙ ap (λ n. cond K n 0) (count_by-if J I xs)
    ∙ ap (λ n. cond K (cond J n 0) 0) (hits (cubes_x b) b.x0 c.x t.i)
    ∙ nested K J (is_in b.x0 (cubes_x b) c.x t.i)

nested_two : (p q r : Bool) → cond {A = ℕ} p (cond r (cond q 1 0) 0) 0 ≡ cond (p && (q && r)) 1 0
nested_two true true true = refl
nested_two true true false = refl
nested_two true false true = refl
nested_two true false false = refl
nested_two false q r = refl

in_layer : (b : Bounds) (c : Corner) (t : Place) (k : ℕ)
    → count_by (λ (x : Place). same_place (place_of x c) t) (lowest_in_layer b k)
    ≡ cond ((k + c.z == t.k) && (is_in b.y0 (cubes_y b) c.y t.j && is_in b.x0 (cubes_x b) c.x t.i)) 1 0
in_layer b c t k =
    let K = k + c.z == t.k in
    let J : ℕ → Bool = λ j. j + c.y == t.j in
    let X = is_in b.x0 (cubes_x b) c.x t.i in
    let ys = range_with_len b.y0 (cubes_y b) in
    let hit : Place → Bool = λ (x : Place). same_place (place_of x c) t in
    count_by-flat_map hit (λ j. lowest_in_row b j k) ys
    ∙ sum_by-same (λ j. count_by hit (lowest_in_row b j k)) (λ j. cond (K && (J j && X)) 1 0) ys (λ m d less. in_row b c t _ k)
    ∙ count_by-if K (λ j. J j && X) ys
    ∙ ap (λ n. cond K n 0) (count_by-and X J ys)
    ∙ ap (λ n. cond K (cond X n 0) 0) (hits (cubes_y b) b.y0 c.y t.j)
    ∙ nested_two K (is_in b.y0 (cubes_y b) c.y t.j) X

pub cubes_at : (b : Bounds) (c : Corner) (t : Place)
    → count_by (λ (x : Place). same_place (place_of x c) t) (all_lowest b) ≡ cond (has_at b c t) 1 0
cubes_at b c t =
    let K : ℕ → Bool = λ k. k + c.z == t.k in
    let YX = is_in b.y0 (cubes_y b) c.y t.j && is_in b.x0 (cubes_x b) c.x t.i in
    let zs = range_with_len b.z0 (cubes_z b) in
    let hit : Place → Bool = λ (x : Place). same_place (place_of x c) t in
    count_by-flat_map hit (lowest_in_layer b) zs
    ∙ sum_by-same (λ k. count_by hit (lowest_in_layer b k)) (λ k. cond (K k && YX) 1 0) zs (λ m d less. in_layer b c t _)
    ∙ count_by-and YX K zs
    ∙ ap (λ n. cond YX n 0) (hits (cubes_z b) b.z0 c.z t.k)
    ∙ two (is_in b.z0 (cubes_z b) c.z t.k) YX
  where
    two : (p q : Bool) → cond {A = ℕ} q (cond p 1 0) 0 ≡ cond (p && q) 1 0
    two true true = refl
    two true false = refl
    two false true = refl
    two false false = refl
