use Rattle.viz_piece_divisions.proofs.ShareLemmas as lemma
use Rattle.viz_piece_divisions.proofs.laws.made_is_shared_out.Goals as goal

pub returns : goal.returns
returns c = record {
  turn = lemma.turn_shares_out;
  selection = lemma.selections_share_out;
  boundary = lemma.boundaries_share_out;
  section = lemma.sections_share_out;
  appended = lemma.appended_share_out;
}
