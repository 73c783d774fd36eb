use Rattle.viz_node_meaning.specs.Information.{InformationRule}
use Rattle.viz_once.proofs.GivenLemmas.{through, stopped}
use Rattle.viz_once.proofs.evaluation.known.Goals as goal

pub returns-in-Ok : goal.returns-in-Ok
returns-in-Ok c = through InformationRule c.args.source.now c.args.node.now c.in-Ok.input c.known_behind.result c.in-Ok.ensures c.known_behind.ensures

pub returns-in-Err : goal.returns-in-Err
returns-in-Err c = stopped InformationRule c.args.source.now c.args.node.now c.in-Err.fault c.in-Err.ensures
