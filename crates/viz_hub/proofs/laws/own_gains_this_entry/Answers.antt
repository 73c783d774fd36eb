use Rattle.viz_hub.proofs.PassLemmas.{answers_own, answers_ended}
use Rattle.viz_hub.proofs.laws.own_gains_this_entry.Goals as goal

pub returns : goal.returns
returns c = record { own = answers_own; ended = answers_ended }
