-- What is decided step by step.
use Rattle.std.proofs.Common.{◌≡◌, Result, Ok, sym, ap, ◌∙◌, inl, inr}
use Rattle.viz_network.specs.declared.fault.Cause.{Cause}
use Rattle.viz_reshape.specs.Reshape.{Is, Demands}

-- at most one result is decided
abbrev pub IsOneOf : {X : Type 0} → (Result X Cause → Type 0) → Type 0
IsOneOf {X} rule = (a b : Result X Cause) → rule a → rule b → a ≡ b

pub is-one : {X : Type 0} (P : X → Type 0) → ((x y : X) → P x → P y → x ≡ y) → IsOneOf (Is P)
is-one P one a b p q = p.2 ∙ ap (λ x. Ok x) (one p.0 q.0 p.1 q.1) ∙ sym q.2

pub demands-one : {X : Type 0} (holds : Type 0) (cause : Cause) (rest : Result X Cause → Type 0) → IsOneOf rest → IsOneOf (Demands holds cause rest)
demands-one holds cause rest one a b (inl p) (inl q) = one a b p.1 q.1
demands-one holds cause rest one a b (inl p) (inr q) = absurd (q.0 p.0)
demands-one holds cause rest one a b (inr p) (inl q) = absurd (p.0 q.0)
demands-one holds cause rest one a b (inr p) (inr q) = p.1 ∙ sym q.1
