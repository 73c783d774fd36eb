use Rattle.viz_column.proofs.RangeLemmas.{one_more_passes}
use Rattle.viz_column.specs.Kinds.{fits}
use Rattle.viz_column.proofs.column.show_range.Goals as goal

pub loop-n-preserved : goal.loop-n-preserved
loop-n-preserved g c =
    one_more_passes (fits g.T.Number.kind) g.T.Number.value c.args.numbers.now c.loop-n.n-index c.n-item.result c.loop-n-test.true c.n-item.is c.loop-n.invariant c.whole-whole.ensures.within
