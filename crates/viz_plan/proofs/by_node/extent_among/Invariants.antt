use Rattle.std.proofs.Common.{◌≡◌, drop}
use Rattle.viz_plan.specs.ByNode.{extent_shown}
use Rattle.viz_plan.proofs.by_node.extent_among.Given as goal

abbrev pub invariant-loop-one : goal.invariant-loop-one
invariant-loop-one l = extent_shown l.shown l.node.0 ≡ extent_shown (drop l.one-index l.shown) l.node.0
