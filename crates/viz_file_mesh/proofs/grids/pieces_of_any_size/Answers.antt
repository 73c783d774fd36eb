use Rattle.viz_mesh_read.proofs.PieceLemmas.{cells-on}
use Rattle.viz_sheet.specs.Ranked.{IsCell}
use Rattle.viz_file_mesh.specs.GridPieces.{grid_piece}
use Rattle.viz_file_mesh.proofs.PieceLoops.{next_pieces}
use Rattle.viz_file_mesh.proofs.grids.pieces_of_any_size.Goals as goal

pub put_mixed-requires : goal.put_mixed-requires
put_mixed-requires c =
    next_pieces (IsCell c.args.points) grid_piece c.args.count c.loop.counter c.loop.pieces.items c.loop.left.now c.first_indices.result.now _ c.loop-test.true c.first_indices.ensures.value c.loop.invariant c.requires

pub loop-preserved : goal.loop-preserved
loop-preserved c =
    cells-on grid_piece c.args.count c.loop.counter c.loop.pieces.items c.put_mixed.new.pieces.items c.loop.left.now c.first_indices.result.now c.behind_first-left.result.now _ c.loop-test.true c.first_indices.ensures.value c.behind_first-left.ensures.value c.in_ok-put_mixed.ensures c.loop.invariant
