use Rattle.std.proofs.Common.{map}
use Rattle.viz_mesh_read.proofs.PieceLemmas.{cells-on}
use Rattle.viz_file_mesh.specs.GridPieces.{grid_piece}
use Rattle.viz_file_mesh.proofs.grids.pieces_of_size.Goals as goal

pub loop-preserved : goal.loop-preserved
loop-preserved g c =
    let list = g.C.CellIndices.list in
    cells-on grid_piece c.args.count c.loop.counter (map list c.loop.pieces.items) (map list c.put_cell.new.pieces.items) c.loop.left.now c.first_indices.result.now c.behind_first-left.result.now _ c.loop-test.true c.first_indices.ensures.value c.behind_first-left.ensures.value
    (c.in_ok-put_cell.ensures c.if-not-branch.false) c.loop.invariant
