use Rattle.std.proofs.Common.{arith}
use Rattle.viz_flags.proofs.ByteLemmas.{set_before-is}
use Rattle.viz_flags.proofs.ranks.set_before.Goals as goal

pub returns-clause-value : goal.returns-clause-value
returns-clause-value c = set_before-is c.args.mask c.args.flag (omega arith) c.requires
