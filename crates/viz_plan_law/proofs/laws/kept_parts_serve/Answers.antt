use Rattle.viz_plan_law.proofs.KeptLemmas.{kept_serve}
use Rattle.viz_plan_law.proofs.laws.kept_parts_serve.Goals as goal

pub returns : goal.returns
returns c = record { serve = kept_serve }
