use Rattle.viz_mesh_write.proofs.TextLemmas.{is_there}
use Rattle.viz_mesh_write.proofs.mesh.is_grid.Goals as goal

pub returns : goal.returns
returns c = is_there c.args._sheets.now c.args.tally.now c.requires
