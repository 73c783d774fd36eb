use Rattle.std.proofs.Common.{ap, length, ◌∙◌}
use Rattle.viz_file_mesh.proofs.MeshLemmas.{file_points-length}
use Rattle.viz_file_mesh.proofs.meshes.poly_mesh.Goals as goal

pub mesh_with-requires-clause-points : goal.mesh_with-requires-clause-points
mesh_with-requires-clause-points c = ap length c.in_ok-places.ensures ∙ file_points-length c.args.unit c.args.poly.points c.args.picked
