use Rattle.viz_piece_filters.proofs.SelectedLemmas.{selections_keep}
use Rattle.viz_piece_filters.proofs.laws.selections_keep_parts.Goals as goal

pub returns : goal.returns
returns c = record { law = selections_keep }
