use Rattle.viz_piece_divisions.proofs.PieceLemmas as lemma
use Rattle.viz_piece_divisions.proofs.laws.pieces_go_to_pieces.Goals as goal

pub returns : goal.returns
returns c = record {
  selection = lemma.selections_of_pieces;
  boundary = lemma.boundaries_of_pieces;
  section = lemma.sections_of_pieces;
  appended = lemma.appended_pieces;
  fit = lemma.parts_fit;
}
