use Rattle.std.proofs.Common.{◌≡◌, ◌+◌, drop}
use Rattle.viz_batches.specs.Steps.Checking.{check_each}
use Rattle.viz_batches.proofs.sets.check_all.Given as goal

-- with the edits that are left, what is found is what is to be found
abbrev pub invariant-loop-i : goal.invariant-loop-i
invariant-loop-i l = check_each (l.i + 1) (drop l.i l.edits) l.net ≡ check_each 1 l.edits l.net
