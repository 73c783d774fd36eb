use Rattle.viz_node_meaning.specs.Data.{DataRule}
use Rattle.viz_once.proofs.GivenLemmas.{through_answers, stopped_answers}
use Rattle.viz_once.proofs.evaluation.given.Goals as goal

pub returns-in-Ok-clause-value : goal.returns-in-Ok-clause-value
returns-in-Ok-clause-value c =
    through_answers DataRule c.args.source c.args.node.now c.in-Ok.input c.given_behind.result c.in-Ok.ensures.value c.given_behind.ensures.value

pub returns-in-Err-clause-value : goal.returns-in-Err-clause-value
returns-in-Err-clause-value c = stopped_answers DataRule c.args.source c.args.node.now c.in-Err.stop c.in-Err.ensures.value
