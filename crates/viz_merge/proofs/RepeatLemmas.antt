-- Few leaves of which no two are the same.
use Rattle.std.proofs.Common.{◌≡◌, ℕ, ◌≤◌, Bool, true, false, not, ◌&&◌, ◌||◌, List, [], ◌∷◌, length, nat_eq, refl, ap₂, sym, ◌∙◌, arith}
use Rattle.viz_mesh_meaning.specs.Merge.{has_no_repeat}

two-tests : (x : Bool) → (not (x || false) && true) ≡ not x
two-tests true = refl
two-tests false = refl

pub two-differ : (a b : ℕ) → not (nat_eq a b) ≡ has_no_repeat (a ∷ b ∷ [])
two-differ a b = sym (two-tests (nat_eq a b))

three-tests : (x y z : Bool) → ((not x && not y) && not z) ≡ (not (x || (y || false)) && (not (z || false) && true))
three-tests true y z = refl
three-tests false true z = refl
three-tests false false true = refl
three-tests false false false = refl

pub three-differ : (a b c : ℕ) (p q r : Bool) → p ≡ has_no_repeat (a ∷ b ∷ []) → q ≡ has_no_repeat (a ∷ c ∷ []) → r ≡ has_no_repeat (b ∷ c ∷ []) → ((p && q) && r) ≡ has_no_repeat (a ∷ b ∷ c ∷ [])
three-differ a b c p q r ep eq er =
    ap₂ (λ s t. s && t) (ap₂ (λ s t. s && t) (ep ∙ two-tests (nat_eq a b)) (eq ∙ two-tests (nat_eq a c))) (er ∙ two-tests (nat_eq b c))
    ∙ three-tests (nat_eq a b) (nat_eq a c) (nat_eq b c)

four-tests : (x y z s : Bool) → ((not x && (not y && not z)) && s) ≡ (not (x || (y || (z || false))) && s)
four-tests true y z s = refl
four-tests false true z s = refl
four-tests false false true s = refl
four-tests false false false s = refl

pub four-differ : (a b c d : ℕ) (p q r s : Bool) → p ≡ has_no_repeat (a ∷ b ∷ []) → q ≡ has_no_repeat (a ∷ c ∷ []) → r ≡ has_no_repeat (a ∷ d ∷ []) → s ≡ has_no_repeat (b ∷ c ∷ d ∷ [])
    → ((p && (q && r)) && s) ≡ has_no_repeat (a ∷ b ∷ c ∷ d ∷ [])
four-differ a b c d p q r s ep eq er es =
    ap₂ (λ u v. u && v) (ap₂ (λ u v. u && v) (ep ∙ two-tests (nat_eq a b)) (ap₂ (λ u v. u && v) (eq ∙ two-tests (nat_eq a c)) (er ∙ two-tests (nat_eq a d)))) es
    ∙ four-tests (nat_eq a b) (nat_eq a c) (nat_eq a d) (has_no_repeat (b ∷ c ∷ d ∷ []))

-- one leaf, or none
pub few-differ : (leaves : List ℕ) → length leaves ≤ 1 → true ≡ has_no_repeat leaves
few-differ [] l = refl
few-differ (a ∷ []) l = refl
few-differ (a ∷ b ∷ rest) l = absurd (omega arith)
