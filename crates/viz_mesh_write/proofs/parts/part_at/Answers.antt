use Rattle.std.proofs.Common.{rules}
use Rattle.viz_mesh_write.proofs.PartLemmas.{part_is}
use Rattle.viz_mesh_write.proofs.parts.part_at.Goals as goal

pub returns : goal.returns
returns g c = part_is c.args.items.now c.args.part c.min.result (search rules)
