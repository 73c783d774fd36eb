use Rattle.viz_account.proofs.MadeLemmas.{scratch_stopped}
use Rattle.viz_account.proofs.made.file_of.Goals as goal

pub returns-in-Err : goal.returns-in-Err
returns-in-Err c = scratch_stopped c.args.net.now c.args.node.0 c.in-Err.stop c.in-Err.ensures.value
