-- Facts of which it is decided whether they hold.
use Rattle.std.proofs.Common.{ℕ, ◌≤◌, ◌⊎◌, inl, inr, List, [], ◌∷◌, All, arith}
use Rattle.std.specs.List.{AllByRecursion}
use Rattle.std.proofs.lemmas.Bool.{cases_lt}
use Rattle.std.proofs.lemmas.List.Elements.{All-from_recursion, recursion_from_All}

-- it holds, or it doesn't
abbrev pub IsDecided : Type 0 → Type 0
IsDecided P = P ⊎ (P → ⊥)

-- what says the same is decided too
pub like_decided : {P Q : Type 0} → (P → Q) → (Q → P) → IsDecided P → IsDecided Q
like_decided f g (inl p) = inl (f p)
like_decided f g (inr never) = inr (λ q. never (g q))

pub both_decided : {P Q : Type 0} → IsDecided P → IsDecided Q → IsDecided (P × Q)
both_decided (inl p) (inl q) = inl (p, q)
both_decided (inl p) (inr never) = inr (λ h. never h.1)
both_decided (inr never) e = inr (λ h. never h.0)

pub follows_decided : {P Q : Type 0} → IsDecided P → IsDecided Q → IsDecided (P → Q)
follows_decided (inr never) e = inl (λ p. absurd (never p))
follows_decided (inl p) (inl q) = inl (λ _. q)
follows_decided (inl p) (inr never) = inr (λ f. never (f p))

pub least_decided : (m n : ℕ) → IsDecided (m ≤ n)
least_decided m n = elim (cases_lt n m) [
  | inl lt ↦ inr (λ h. absurd (omega (arith, lt, h)))
  | inr le ↦ inl le
]

each_decided : {X : Type 0} (P : X → Type 0) → ((x : X) → IsDecided (P x)) → (xs : List X)
    → IsDecided (AllByRecursion P xs)
each_decided P each [] = inl tt
each_decided P each (x ∷ xs) = both_decided (each x) (each_decided P each xs)

pub all_decided : {X : Type 0} (P : X → Type 0) → ((x : X) → IsDecided (P x)) → (xs : List X)
    → IsDecided (All P xs)
all_decided P each xs =
    like_decided (All-from_recursion P xs) (recursion_from_All P xs) (each_decided P each xs)
