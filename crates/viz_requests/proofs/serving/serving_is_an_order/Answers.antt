use Rattle.viz_requests.proofs.ServingLemmas.{itself, on}
use Rattle.viz_requests.proofs.serving.serving_is_an_order.Goals as goal

pub returns-clause-itself : goal.returns-clause-itself
returns-clause-itself c = itself

pub returns-clause-on : goal.returns-clause-on
returns-clause-on c = on
