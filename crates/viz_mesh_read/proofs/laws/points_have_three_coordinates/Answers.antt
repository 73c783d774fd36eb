use Rattle.viz_mesh_read.proofs.PointLaws.{points-sized}
use Rattle.viz_mesh_read.proofs.laws.points_have_three_coordinates.Goals as goal

pub returns : goal.returns
returns c = record { sized = points-sized }
