use Rattle.std.proofs.Common.{ℕ, List, ◌++◌}
use Rattle.viz_parts.specs.declared.request.Request.{Request}
use Rattle.viz_plan.specs.Told.{needs_in}
use Rattle.viz_plan.specs.Published.{keys_of}
use Rattle.viz_executive.specs.Steps.Tasks.{IsDone}
use Rattle.viz_executive.proofs.levels.keep_all.Given as goal

abbrev pub invariant-loop-item : goal.invariant-loop-item
invariant-loop-item l = record { done : (needs : List (ℕ × Request)) → IsDone l.ground.sites.net needs l.initial.done.table.items l.initial.done.made.items → IsDone l.ground.sites.net (needs ++ needs_in (keys_of l.yielded)) l.done.table.items l.done.made.items }
