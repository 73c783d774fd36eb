use Rattle.viz_plan_meaning.proofs.LawLemmas.{plans_produce}
use Rattle.viz_plan_meaning.proofs.evaluation.plans_produce.Goals as goal

pub returns : goal.returns
returns g c = record { law = λ sound. plans_produce c.serving_is_an_order.ensures.itself c.serving_is_an_order.ensures.on _ _ _ _ _ sound }
