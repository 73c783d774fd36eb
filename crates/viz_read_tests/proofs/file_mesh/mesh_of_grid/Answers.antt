use Rattle.std.proofs.Common.{false}
use Rattle.viz_mesh_read.specs.Grid.{grid_of}
use Rattle.viz_file_mesh.proofs.ReadCells.{grid_numbers-cells, grid_numbers-points}
use Rattle.viz_read_tests.proofs.file_mesh.mesh_of_grid.Goals as goal

pub grid_mesh-requires-clause-points : goal.grid_mesh-requires-clause-points
grid_mesh-requires-clause-points c =
    grid_numbers-points false false c.new-lexer.result c.grid.new.lexer (grid_of c.in-Ok.file) c.args.picked c.in-Ok.ensures.meets (c.is_for_each.ensures c.if-not-is_for_each.false)

pub grid_mesh-requires-clause-cells : goal.grid_mesh-requires-clause-cells
grid_mesh-requires-clause-cells c = grid_numbers-cells false false c.new-lexer.result c.grid.new.lexer (grid_of c.in-Ok.file) c.in-Ok.ensures.meets
