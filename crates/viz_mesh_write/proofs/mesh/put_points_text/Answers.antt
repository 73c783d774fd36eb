use Rattle.viz_mesh_write.specs.Cells.{points_of}
use Rattle.viz_mesh_write.proofs.TextLemmas.{points_are}
use Rattle.viz_mesh_write.proofs.mesh.put_points_text.Goals as goal

pub returns-clause-ok : goal.returns-clause-ok
returns-clause-ok g c =
    points_are c.args.binary c.args.digits (points_of c.args.sheets.now) c.args.n (g.T.Target.text c.args.text.now) (g.T.Target.text c.put_points_line.new.text) (g.T.Target.text c.put_points.new.text) _ c.requires.count c.in_ok-put_points_line.ensures c.in_ok-put_points.ensures.ok c.in_ok-put_end.ensures
