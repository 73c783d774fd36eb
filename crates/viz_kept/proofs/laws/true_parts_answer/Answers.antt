use Rattle.viz_kept.proofs.TrueLemmas.{part_of_each}
use Rattle.viz_kept.proofs.laws.true_parts_answer.Goals as goal

pub returns-clause-given : goal.returns-clause-given
returns-clause-given c = λ net item true stamp. let p = true.part stamp in (p.whole, p.given)

pub returns-clause-answers : goal.returns-clause-answers
returns-clause-answers c = λ net item true stamp whole given. part_of_each c.scratch_is_one.ensures.cones net item (true.part stamp) whole given
