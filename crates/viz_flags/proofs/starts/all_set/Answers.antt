use Rattle.std.proofs.Common.{arith}
use Rattle.viz_flags.proofs.ByteLemmas.{all_set-is}
use Rattle.viz_flags.proofs.starts.all_set.Goals as goal

pub returns-clause-value : goal.returns-clause-value
returns-clause-value c = all_set-is c.args.mask (omega arith)
