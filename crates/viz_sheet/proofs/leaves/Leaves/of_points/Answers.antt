use Rattle.std.proofs.Common.{subst, sym}
use Rattle.viz_sheet.specs.Sheet.{AreAscending}
use Rattle.viz_sheet.proofs.LeafLemmas.{leaf_names-ascend}
use Rattle.viz_sheet.proofs.leaves.Leaves.of_points.Goals as goal

pub returns-clause-ascending : goal.returns-clause-ascending
returns-clause-ascending c = subst AreAscending (sym c.in_ok-numbers_below.ensures) (leaf_names-ascend c.args.count)
