use Rattle.viz_network.proofs.HistoryLemmas.{equal_stamps}
use Rattle.viz_network.proofs.laws.equal_stamps_are_equal_cones.Goals as goal

pub returns : goal.returns
returns c = record { law = equal_stamps }
