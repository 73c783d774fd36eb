use Rattle.std.proofs.Common.{◌≡◌}
use Rattle.viz_sheet.specs.Ranked.{leaf_names}
use Rattle.viz_sheet.proofs.leaves.numbers_below.Given as goal

abbrev pub invariant-loop-leaf : goal.invariant-loop-leaf
invariant-loop-leaf l = l.names.items ≡ leaf_names l.leaf
