-- Names of parts, each once: names are equal by places where their order ties.
use Rattle.std.proofs.Common.{◌≡◌, ℕ, Bool, true, false, ◌&&◌, nat_eq, eqb-true, true≢false, List, [], ◌∷◌, refl, sym, ap₂}
use Rattle.std.specs.Cmp.Lexicographic.{slice_cmp, pointwise}
use Rattle.std.specs.Ordering.{nat_cmp, eq_by_cmp}
use Rattle.std.proofs.lemmas.Map.Text.{is_eq-slice_cmp}

both_true : (a b : Bool) → (a && b) ≡ true → (a ≡ true) × (b ≡ true)
both_true true b h = (refl, h)
both_true false b h = absurd (true≢false (sym h))

pub same_points : (x y : List ℕ) → pointwise nat_eq x y ≡ true → x ≡ y
same_points [] [] h = refl
same_points [] (b ∷ y) h = absurd (true≢false (sym h))
same_points (a ∷ x) [] h = absurd (true≢false (sym h))
same_points (a ∷ x) (b ∷ y) h = let t = both_true (nat_eq a b) (pointwise nat_eq x y) h in ap₂ (λ u v. u ∷ v) (eqb-true a b t.0) (same_points x y t.1)

pub points_tie : (x y : List ℕ) → pointwise nat_eq x y ≡ eq_by_cmp (slice_cmp nat_cmp) x y
points_tie x y = sym (is_eq-slice_cmp x y)
