use Rattle.std.proofs.Common.{◌≡◌, map}
use Rattle.viz_actor.proofs.journal.entries_with.Given as goal

abbrev pub invariant-loop-entry : goal.invariant-loop-entry
invariant-loop-entry l = l.entries.items ≡ map (λ p. record { actor = p.0.1.now; count = p.1.now; batch = p.0.0.batch }) l.yielded
