use Rattle.viz_piece_tets.proofs.TetsLemmas.{share_out}
use Rattle.viz_piece_tets.proofs.laws.layers_share_out.Goals as goal

pub returns : goal.returns
returns c = record { all = share_out c.tetrahedra_parts_are_parts.ensures.all }
