use Rattle.viz_node_answers.proofs.AnswerLemmas as lemma
use Rattle.viz_node_answers.proofs.laws.mesh_filters_answer.Goals as goal

pub returns : goal.returns
returns c = record {
  selection = lemma.select_answers;
  section = lemma.section_answers;
  boundary = lemma.boundary_answers;
  appended = lemma.append_answers;
  merged = lemma.merge_answers;
  writer = lemma.writer_answers;
}
