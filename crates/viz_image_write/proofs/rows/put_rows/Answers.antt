use Rattle.viz_image_write.proofs.RowLemmas.{rows_step}
use Rattle.viz_image_write.proofs.rows.put_rows.Goals as goal

pub loop-preserved : goal.loop-preserved
loop-preserved g c =
    rows_step g.T.Number.value c.args.rows c.loop.counter c.args.width c.min.result c.loop.left.now c.split_at.result.0.now c.split_at.result.1.now c.loop.text.items c.put_row.new.text.items _ c.loop-test.true c.min.ensures c.split_at.ensures.front c.split_at.ensures.back c.in_ok-put_row.ensures c.loop.invariant
