use Rattle.viz_script_law.proofs.CommandsLemmas.{parts-asked}
use Rattle.viz_script_law.proofs.laws.a_batch_is_one_step.Goals as goal

pub returns : goal.returns
returns c = record { parts = parts-asked }
