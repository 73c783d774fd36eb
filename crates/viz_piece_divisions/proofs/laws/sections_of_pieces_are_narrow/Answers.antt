use Rattle.viz_piece_divisions.proofs.NarrowLemmas as lemma
use Rattle.viz_piece_divisions.proofs.laws.sections_of_pieces_are_narrow.Goals as goal

pub returns : goal.returns
returns c = record {
  piece = lemma.pieces_are_narrow;
  mesh = lemma.mesh_is_narrow;
}
