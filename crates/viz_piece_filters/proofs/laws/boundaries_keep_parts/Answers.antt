use Rattle.viz_piece_filters.proofs.BoundaryLemmas.{boundaries_keep}
use Rattle.viz_piece_filters.proofs.laws.boundaries_keep_parts.Goals as goal

pub returns : goal.returns
returns c = record { law = boundaries_keep }
