use Rattle.viz_image_ops.proofs.PartLemmas.{whole_threshold}
use Rattle.viz_image_ops.proofs.laws.whole_thresholds_keep_each.Goals as goal

pub returns : goal.returns
returns c = record { each = whole_threshold }
