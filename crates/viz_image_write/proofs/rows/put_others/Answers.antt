use Rattle.std.proofs.Common.{refl}
use Rattle.viz_image_write.specs.ImageText.{spaced_number}
use Rattle.viz_image_write.proofs.RowLemmas.{block_step}
use Rattle.viz_image_write.proofs.rows.put_others.Goals as goal

pub loop-left-preserved : goal.loop-left-preserved
loop-left-preserved g c =
    block_step g.T.Number.value spaced_number c.min.result c.loop-left.left.now
    c.split_at.result.0.now c.split_at.result.1.now c.loop-left.text.items _ _ _
    c.split_at.ensures.front c.split_at.ensures.back refl c.in_ok-put_part.ensures
    c.loop-left.invariant
