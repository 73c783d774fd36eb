use Rattle.viz_image_ops.proofs.SampleLemmas.{samples_ask_within}
use Rattle.viz_image_ops.proofs.laws.samples_ask_within_the_whole.Goals as goal

pub returns : goal.returns
returns c = record { within = samples_ask_within }
