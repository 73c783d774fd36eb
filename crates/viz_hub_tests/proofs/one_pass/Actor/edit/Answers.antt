use Rattle.std.proofs.Common.{◌+◌, length, sym, ap, ◌∙◌}
use Rattle.viz_history.proofs.HistoryLemmas.{own_all}
use Rattle.viz_hub_tests.proofs.one_pass.Actor.edit.Goals as goal

pub edit-answer-requires : goal.edit-answer-requires
edit-answer-requires c = record { next = ap (λ n. n + 1) (c.front-count.ensures.value ∙ ap length (sym c.self.invariant)) }

pub invariant_of-self : goal.invariant_of-self
invariant_of-self c = own_all 1 (c.front-count.result + 1) c.args.batch c.self.inside.core c.edit-answer.result c.edit-answer.new.self c.edit-answer.ensures.replies c.self.invariant
