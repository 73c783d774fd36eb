use Rattle.std.proofs.Common.{None}
use Rattle.viz_mesh_read.specs.Grid.{grid_of}
use Rattle.viz_file_mesh.proofs.ReadCells.{grid_numbers-points, grid_numbers-cells}
use Rattle.viz_legacy_read.proofs.mesh.grid_geometry.Goals as goal

pub returns-clause-points : goal.returns-clause-points
returns-clause-points c =
    grid_numbers-points c.args.preamble.now.binary c.args.preamble.now.later c.args.lexer.now c.grid.new.lexer (grid_of c.in_ok-grid.grid) None c.in_ok-grid.ensures.meets tt

pub returns-clause-cells : goal.returns-clause-cells
returns-clause-cells c =
    grid_numbers-cells c.args.preamble.now.binary c.args.preamble.now.later c.args.lexer.now c.grid.new.lexer (grid_of c.in_ok-grid.grid) c.in_ok-grid.ensures.meets
