use Rattle.viz_mesh_read.specs.Points.{points}
use Rattle.viz_mesh_read.specs.Steps.{points_at}
use Rattle.viz_counted_cells.proofs.MeetLemmas.{meets-decided}
use Rattle.viz_mesh_read.proofs.PointLaws.{decides-points}
use Rattle.viz_mesh_read.proofs.coordinates.points.Goals as goal

pub returns-clause-meets : goal.returns-clause-meets
returns-clause-meets c =
    meets-decided (λ p. p) (points c.args.binary) (points_at c.args.binary) (decides-points c.args.binary) c.all_points.result c.args.lexer.now c.all_points.new.lexer c.all_points.ensures.exact
