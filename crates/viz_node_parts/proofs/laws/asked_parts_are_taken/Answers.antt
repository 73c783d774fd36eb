use Rattle.viz_node_parts.proofs.TakenLemmas.{parts_taken}
use Rattle.viz_node_parts.proofs.laws.asked_parts_are_taken.Goals as goal

pub returns : goal.returns
returns c = record { taken = parts_taken c.pieces_go_to_pieces.ensures.fit }
