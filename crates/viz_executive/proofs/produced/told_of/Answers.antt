use Rattle.viz_executive.proofs.StopLemmas.{first_fault}
use Rattle.viz_executive.proofs.produced.told_of.Goals as goal

pub returns-clause-fault : goal.returns-clause-fault
returns-clause-fault c = first_fault c.args.net.now c.args.sink.0 c.inform.result c.inform.ensures.fault
