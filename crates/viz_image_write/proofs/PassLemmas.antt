-- Texts that grow at their end.
use Rattle.std.proofs.Common.{◌≡◌, List, ◌++◌, ap, ◌∙◌, append_assoc}

-- two pieces in turn are one longer piece
pub appended : {X : Type 0} (old mid new a b : List X) → mid ≡ old ++ a → new ≡ mid ++ b → new ≡ old ++ (a ++ b)
appended old mid new a b e f = f ∙ ap (λ (t : List _). t ++ b) e ∙ append_assoc old a b
