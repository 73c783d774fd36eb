use Rattle.viz_mesh_write.specs.Steps.Passes.{IsMovable}
use Rattle.viz_mesh_write.proofs.BlockLemmas.{part_step, in_front, in_rest}
use Rattle.viz_mesh_write.proofs.cell_passes.put_cells.Goals as goal

pub put_part-requires-clause-movable : goal.put_part-requires-clause-movable
put_part-requires-clause-movable g c =
    in_front (λ cell. IsMovable c.args.first (g.C.CellRanks.list cell)) c.min.result
    c.loop-left.left.now c.split_at.result.0.now c.split_at.ensures.front
    c.loop-left.invariant.movable

pub loop-left-preserved : goal.loop-left-preserved
loop-left-preserved g c =
    record {
      written = part_step
          (λ cell. g.R.CellRow.written c.args.what.now c.args.binary c.args.first (g.C.CellRanks.list cell))
          c.min.result c.loop-left.left.now c.split_at.result.0.now c.split_at.result.1.now
          c.loop-left.text.items _ _ c.split_at.ensures.front c.split_at.ensures.back
          c.in_ok-put_part.ensures c.loop-left.invariant.written;
      movable = in_rest (λ cell. IsMovable c.args.first (g.C.CellRanks.list cell)) c.min.result
          c.loop-left.left.now c.split_at.result.1.now c.split_at.ensures.back
          c.loop-left.invariant.movable;
    }
