use Rattle.std.proofs.Common.{◌∙◌}
use Rattle.viz_merge.proofs.PassLemmas.{before-below, numbers-by}
use Rattle.viz_merge.proofs.numbers.numbers.Goals as goal

pub looked_up-requires : goal.looked_up-requires
looked_up-requires c = before-below c.args.marks.now c.deref.result.now c.args.leads.now (c.deref.ensures.value ∙ c.in_ok-before.ensures) c.requires.below

pub returns : goal.returns
returns c = record {
  value = c.in_ok-numbers.ensures ∙ numbers-by c.args.marks.now c.deref.result.now c.args.leads.now (c.deref.ensures.value ∙ c.in_ok-before.ensures) c.requires.below;
}
