use Rattle.viz_piece_filters.proofs.BoundaryLemmas.{trimmed_keep}
use Rattle.viz_piece_filters.proofs.laws.trimmed_keep_parts.Goals as goal

pub returns : goal.returns
returns c = record { law = trimmed_keep }
