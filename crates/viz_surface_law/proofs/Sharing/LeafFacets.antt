-- Facets by their leaves in ascending order, and the direction in which they are run through.
use Rattle.std.proofs.Common.{◌≡◌, ◌≢◌, ℕ, ◌<◌, ◌==◌, Bool, true, false, not, ◌&&◌, true≢false, inl, inr, refl, sym, ap}
use Rattle.std.specs.Prelude.{◌⊎◌}
use Rattle.std.specs.Bool.{Decides}
use Rattle.std.proofs.lemmas.Bool.Decides.{Decides-like, Decides-and, Decides-eqb}
use Rattle.viz_surface_law.proofs.Sharing.FacetTable.{same_flag}

-- a facet by its leaves in ascending order
pub record Leaves : Type 0 where
  pub up : Bool
  pub a : ℕ
  pub b : ℕ
  pub c : ℕ

abbrev pub leaves : Bool → ℕ → ℕ → ℕ → Leaves
leaves up a b c = record { up = up; a = a; b = b; c = c }

pub record Ascends (f : Leaves) : Type 0 where
  pub ab : f.a < f.b
  pub bc : f.b < f.c

abbrev pub same_leaves : Leaves → Leaves → Bool
same_leaves f g = same_flag f.up g.up && ((f.a == g.a) && ((f.b == g.b) && (f.c == g.c)))

pub leaves_from : (f g : Leaves) → f.up ≡ g.up → f.a ≡ g.a → f.b ≡ g.b → f.c ≡ g.c → f ≡ g
leaves_from f g up a b c = λ i. record { up = up i; a = a i; b = b i; c = c i }

pub flags : (p q : Bool) → (p ≡ q) ⊎ (p ≡ not q)
flags true true = inl refl
flags true false = inr refl
flags false true = inr refl
flags false false = inl refl

pub flag-decides : (p q : Bool) → Decides (same_flag p q) (p ≡ q)
flag-decides true true = (λ _. refl, λ _. refl)
flag-decides true false = (λ h. absurd (true≢false (sym h)), λ h. sym h)
flag-decides false true = (λ h. absurd (true≢false (sym h)), λ h. h)
flag-decides false false = (λ _. refl, λ _. refl)

pub same_leaves-decides : (f g : Leaves) → Decides (same_leaves f g) (f ≡ g)
same_leaves-decides f g =
    Decides-like (same_leaves f g) (λ parts. leaves_from f g parts.0 parts.1.0 parts.1.1.0 parts.1.1.1)
    (λ same. (ap (λ (x : Leaves). x.up) same, (ap (λ (x : Leaves). x.a) same, (ap (λ (x : Leaves). x.b) same, ap (λ (x : Leaves). x.c) same))))
    (Decides-and (same_flag f.up g.up) _ (flag-decides f.up g.up)
    (Decides-and (f.a == g.a) _ (Decides-eqb f.a g.a) (Decides-and (f.b == g.b) (f.c == g.c) (Decides-eqb f.b g.b) (Decides-eqb f.c g.c))))
