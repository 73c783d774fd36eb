use Rattle.viz_piece_section.proofs.SectionLemmas.{share_out}
use Rattle.viz_piece_section.proofs.laws.sections_share_out.Goals as goal

pub returns : goal.returns
returns c = record { all = share_out c.layers_share_out.ensures.all c.owns_hand_on.ensures.made }
