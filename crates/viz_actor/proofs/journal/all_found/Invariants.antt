use Rattle.std.proofs.Common.{◌≡◌, map, take, Some}
use Rattle.viz_actor.proofs.journal.all_found.Given as goal

abbrev pub invariant-loop-actor : goal.invariant-loop-actor
invariant-loop-actor l = take l.actor-index l.found ≡ map Some l.actors.items
