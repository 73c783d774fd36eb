use Rattle.std.proofs.Common.{arith}
use Rattle.std.proofs.lemmas.List.{length-map}
use Rattle.viz_dataset.proofs.RowLemmas.{copied_more}
use Rattle.viz_dataset.proofs.restricted.rows_of.Goals as goal

pub loop-row-preserved : goal.loop-row-preserved
loop-row-preserved g c =
    let value = g.T.Number.value in
    let xs = c.args.numbers.now in
    copied_more value c.args.whole.now c.args.part.now c.loop-row.row xs c.loop-row.copy.items c.row_of.result.now c.extend_from_slice.new.self.items c.loop-row.invariant (omega (arith, length-map xs value, c.row_of.ensures.below)) c.row_of.ensures.value c.in_ok-extend_from_slice.ensures.items
