use Rattle.viz_piece_filters.proofs.SectionLemmas.{sections_keep}
use Rattle.viz_piece_filters.proofs.laws.sections_keep_parts.Goals as goal

pub returns : goal.returns
returns c = record { law = sections_keep }
