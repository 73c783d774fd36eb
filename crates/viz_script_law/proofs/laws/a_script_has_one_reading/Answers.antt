use Rattle.viz_script_law.proofs.ScriptRead.{one}
use Rattle.viz_script_law.proofs.laws.a_script_has_one_reading.Goals as goal

pub returns : goal.returns
returns c = record { one = one }
