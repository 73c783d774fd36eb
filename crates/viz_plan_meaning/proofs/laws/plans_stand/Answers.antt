use Rattle.viz_plan_meaning.proofs.LawLemmas.{plans_stand}
use Rattle.viz_plan_meaning.proofs.laws.plans_stand.Goals as goal

pub returns : goal.returns
returns c = record { law = plans_stand c.serving_is_an_order.ensures.itself c.serving_is_an_order.ensures.on }
