use Rattle.viz_kept.proofs.TrueLemmas.{all_longer, all_true_in}
use Rattle.viz_kept.proofs.laws.true_of_longer.Goals as goal

pub returns-clause-longer : goal.returns-clause-longer
returns-clause-longer c = all_longer

pub returns-clause-network : goal.returns-clause-network
returns-clause-network c = all_true_in
