use Rattle.std.proofs.Common.{false}
use Rattle.viz_mesh_read.specs.Poly.{polydata_of}
use Rattle.viz_file_mesh.proofs.ReadCells.{polydata_numbers-cells, polydata_numbers-points}
use Rattle.viz_read_tests.proofs.file_mesh.mesh_of_poly.Goals as goal

pub poly_mesh-requires-clause-points : goal.poly_mesh-requires-clause-points
poly_mesh-requires-clause-points c =
    polydata_numbers-points false false c.new-lexer.result c.polydata.new.lexer (polydata_of c.in-Ok.file) c.args.picked c.in-Ok.ensures.meets (c.is_for_each.ensures c.if-not-is_for_each.false)

pub poly_mesh-requires-clause-cells : goal.poly_mesh-requires-clause-cells
poly_mesh-requires-clause-cells c = polydata_numbers-cells false false c.new-lexer.result c.polydata.new.lexer (polydata_of c.in-Ok.file) c.in-Ok.ensures.meets
