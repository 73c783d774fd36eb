use Rattle.viz_script_law.proofs.ScriptRead.{every, plain}
use Rattle.viz_script_law.proofs.laws.what_is_spelled_is_read.Goals as goal

pub returns-clause-every : goal.returns-clause-every
returns-clause-every c = every

pub returns-clause-plain : goal.returns-clause-plain
returns-clause-plain c = plain
