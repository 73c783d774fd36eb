use Rattle.viz_kept.proofs.TrueLemmas.{overtaken_true}
use Rattle.viz_kept.proofs.laws.overtaken_is_true.Goals as goal

pub returns : goal.returns
returns c = record { law = overtaken_true }
