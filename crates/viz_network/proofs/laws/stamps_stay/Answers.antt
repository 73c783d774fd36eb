use Rattle.viz_network.proofs.HistoryLemmas.{stamps_stay}
use Rattle.viz_network.proofs.laws.stamps_stay.Goals as goal

pub returns : goal.returns
returns c = record { law = stamps_stay }
