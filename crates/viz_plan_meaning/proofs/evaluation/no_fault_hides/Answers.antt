use Rattle.viz_plan_meaning.proofs.LawLemmas.{no_fault_hides}
use Rattle.viz_plan_meaning.proofs.evaluation.no_fault_hides.Goals as goal

pub returns : goal.returns
returns g c = record { law = λ sound spoiling. no_fault_hides c.serving_is_an_order.ensures.itself c.serving_is_an_order.ensures.on _ _ _ _ _ _ _ sound spoiling }
