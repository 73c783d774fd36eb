use Rattle.std.proofs.Common.{None}
use Rattle.viz_mesh_read.specs.Poly.{polydata_of}
use Rattle.viz_file_mesh.proofs.ReadCells.{polydata_numbers-points, polydata_numbers-cells}
use Rattle.viz_legacy_read.proofs.mesh.poly_geometry.Goals as goal

pub returns-clause-points : goal.returns-clause-points
returns-clause-points c =
    polydata_numbers-points c.args.preamble.now.binary c.args.preamble.now.later c.args.lexer.now c.polydata.new.lexer (polydata_of c.in_ok-poly.poly) None c.in_ok-poly.ensures.meets tt

pub returns-clause-cells : goal.returns-clause-cells
returns-clause-cells c =
    polydata_numbers-cells c.args.preamble.now.binary c.args.preamble.now.later c.args.lexer.now c.polydata.new.lexer (polydata_of c.in_ok-poly.poly) c.in_ok-poly.ensures.meets
