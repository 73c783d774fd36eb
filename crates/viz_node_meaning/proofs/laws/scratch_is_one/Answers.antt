use Rattle.viz_node_meaning.proofs.ScratchLemmas.{cones_give_one}
use Rattle.viz_node_meaning.proofs.laws.scratch_is_one.Goals as goal

pub returns : goal.returns
returns c = record { cones = cones_give_one c.rules_are_one.ensures.information c.rules_are_one.ensures.data }
