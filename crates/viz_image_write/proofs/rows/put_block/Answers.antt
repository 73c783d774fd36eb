use Rattle.std.proofs.Common.{◌∙◌}
use Rattle.viz_column.specs.Bytes.{bytes_of}
use Rattle.viz_image_write.proofs.RowLemmas.{block_step}
use Rattle.viz_image_write.proofs.rows.put_block.Goals as goal

pub loop-left-preserved : goal.loop-left-preserved
loop-left-preserved g c =
    block_step g.T.Number.value (bytes_of g.T.Number.kind) c.min.result c.loop-left.left.now c.split_at.result.0.now c.split_at.result.1.now c.loop-left.text.items c.deref.result.now c.extend_from_slice.new.self.items _ c.split_at.ensures.front c.split_at.ensures.back (c.deref.ensures.value ∙ c.in_ok-block.ensures.value) c.in_ok-extend_from_slice.ensures.items c.loop-left.invariant
