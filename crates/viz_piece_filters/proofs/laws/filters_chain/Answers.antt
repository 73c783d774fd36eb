use Rattle.viz_piece_filters.proofs.ChainLemmas as lemma
use Rattle.viz_piece_filters.proofs.laws.filters_chain.Goals as goal

pub returns : goal.returns
returns c = record {
  selection = lemma.selections_chain;
  boundary = lemma.boundaries_chain;
  trimmed = lemma.trimmed_chain;
  section = lemma.sections_chain;
  handed_on = lemma.selections_hand_on;
  levels = lemma.parts_have_levels;
}
