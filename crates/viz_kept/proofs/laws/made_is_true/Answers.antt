use Rattle.viz_kept.proofs.TrueLemmas.{all_made_true}
use Rattle.viz_kept.proofs.laws.made_is_true.Goals as goal

pub returns : goal.returns
returns c = record { law = all_made_true }
