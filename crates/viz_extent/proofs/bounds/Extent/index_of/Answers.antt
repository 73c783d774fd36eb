use Rattle.std.proofs.Common.{arith}
use Rattle.std.proofs.lemmas.Grind.{common_steps}
use Rattle.viz_extent.proofs.NumberingLemmas.{index_at-by_rows, index_at_below}
use Rattle.viz_extent.proofs.bounds.Extent.index_of.Goals as goal

pub overflow_mul-result : goal.overflow_mul-result
overflow_mul-result c =
    let by_rows = index_at-by_rows c.args.self.now c.args.i c.args.j c.args.k in
    grind (arith, common_steps, index_at_below _ _ _ _ c.requires.within)

pub returns-clause-value : goal.returns-clause-value
returns-clause-value c = rw index_at-by_rows (grind (arith, common_steps))

pub returns-clause-below : goal.returns-clause-below
returns-clause-below c =
    let by_rows = index_at-by_rows c.args.self.now c.args.i c.args.j c.args.k in
    grind (arith, common_steps, index_at_below _ _ _ _ c.requires.within)
