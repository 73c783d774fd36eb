use Rattle.viz_mesh_write.specs.Cells.{points_of}
use Rattle.viz_mesh_write.proofs.TextLemmas.{scalars_are}
use Rattle.viz_mesh_write.proofs.mesh.put_scalars_text.Goals as goal

pub returns-clause-ok : goal.returns-clause-ok
returns-clause-ok g c =
    scalars_are c.args.binary (points_of c.args.sheets.now) c.args.n (g.T.Target.text c.args.text.now) (g.T.Target.text c.put_scalars_head.new.text) (g.T.Target.text c.put_points.new.text) _ c.if-n-eq0.false c.requires.count c.in_ok-put_scalars_head.ensures c.in_ok-put_points.ensures.ok c.in_ok-put_end.ensures
