use Rattle.viz_piece_filters.proofs.MadeLemmas.{made_keep}
use Rattle.viz_piece_filters.proofs.laws.made_keep_parts.Goals as goal

pub returns : goal.returns
returns c = record { law = made_keep }
