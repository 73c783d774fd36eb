use Rattle.viz_node_answers.proofs.ImageAnswerLemmas as lemma
use Rattle.viz_node_answers.proofs.laws.blocks_answer.Goals as goal

pub returns : goal.returns
returns c = record { filtered = lemma.block_answers; arith = lemma.arith_answers }
