use Rattle.viz_mesh_read.specs.Poly.{polydata_of, polydata_numbers}
use Rattle.viz_mesh_read.specs.PolySteps.{polydata_at}
use Rattle.viz_counted_cells.proofs.MeetLemmas.{meets-decided}
use Rattle.viz_mesh_read.proofs.PolyLaws.{decides-polydata_numbers}
use Rattle.viz_mesh_read.proofs.poly.polydata.Goals as goal

pub returns-clause-meets : goal.returns-clause-meets
returns-clause-meets c =
    meets-decided polydata_of (polydata_numbers c.args.binary c.args.later) (polydata_at c.args.binary c.args.later) (decides-polydata_numbers c.args.binary c.args.later) c.whole_polydata.result c.args.lexer.now c.whole_polydata.new.lexer c.whole_polydata.ensures
