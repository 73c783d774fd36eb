use Rattle.std.proofs.Common.{◌≡◌, map, take}
use Rattle.viz_plan.specs.ByNode.{entry_of}
use Rattle.viz_plan.proofs.by_node.kept_by_node.Given as goal

abbrev pub invariant-loop-entry : goal.invariant-loop-entry
invariant-loop-entry l = l.all ≡ map entry_of (take l.entry-index l.entries)
