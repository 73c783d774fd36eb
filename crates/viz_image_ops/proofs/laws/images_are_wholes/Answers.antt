use Rattle.viz_image_ops.proofs.PartLemmas.{on_itself}
use Rattle.viz_image_ops.proofs.laws.images_are_wholes.Goals as goal

pub returns : goal.returns
returns c = record { whole = on_itself }
