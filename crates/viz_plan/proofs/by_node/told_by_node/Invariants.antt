use Rattle.std.proofs.Common.{◌≡◌, map, take}
use Rattle.viz_plan.specs.ByNode.{shown_of}
use Rattle.viz_plan.proofs.by_node.told_by_node.Given as goal

abbrev pub invariant-loop-one : goal.invariant-loop-one
invariant-loop-one l = l.all ≡ map shown_of (take l.one-index l.told)
