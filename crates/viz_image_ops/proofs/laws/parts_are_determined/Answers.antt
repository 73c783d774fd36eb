use Rattle.viz_image_ops.proofs.PartLemmas.{part_is_determined}
use Rattle.viz_image_ops.proofs.laws.parts_are_determined.Goals as goal

pub returns : goal.returns
returns c = record { one = part_is_determined }
