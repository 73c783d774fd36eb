use Rattle.viz_node_answers.proofs.AnswerLemmas as lemma
use Rattle.viz_node_answers.proofs.laws.image_filters_answer.Goals as goal

pub returns : goal.returns
returns c = record { tets = lemma.tets_answer; section = lemma.image_section_answers }
