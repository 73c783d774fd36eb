use Rattle.std.proofs.Common.{◌≡◌, ◌++◌, drop}
use Rattle.viz_plan.specs.ByNode.{present_in}
use Rattle.viz_plan.proofs.by_node.present_among.Given as goal

abbrev pub invariant-loop-entry : goal.invariant-loop-entry
invariant-loop-entry l = l.kept.items ++ present_in l.stamp l.node.0 (drop l.entry-index l.entries) ≡ present_in l.stamp l.node.0 l.entries
