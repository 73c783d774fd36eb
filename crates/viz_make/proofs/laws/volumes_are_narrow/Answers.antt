use Rattle.viz_make.proofs.NarrowVolumes.{volumes_are_narrow}
use Rattle.viz_make.proofs.laws.volumes_are_narrow.Goals as goal

pub returns : goal.returns
returns c = record { narrow = volumes_are_narrow }
