use Rattle.std.proofs.Common.{◌≡◌, List, ℕ, All, length}
use Rattle.viz_actor.specs.Numbering.{Agree, TellsActor}
use Rattle.viz_actor.proofs.journal.actors_found.Given as goal

abbrev pub invariant-loop-row : goal.invariant-loop-row
invariant-loop-row l = (actors : List ℕ) → length actors ≡ l.entries → All (TellsActor actors) l.rows → Agree l.found.items actors
