use Rattle.std.specs.List.Sorted.{IsPermutation}
use Rattle.viz_boundary.proofs.slots.sort_groups.Given as goal

abbrev pub invariant-loop-end : goal.invariant-loop-end
invariant-loop-end l = IsPermutation l.initial.keys l.keys
