use Rattle.viz_actor.proofs.FoundLemmas.{Counted}
use Rattle.viz_actor.proofs.journal.running_numbers.Given as goal

abbrev pub invariant-loop-actor : goal.invariant-loop-actor
invariant-loop-actor l = Counted l.actors l.actor-index l.counts l.numbers.items
