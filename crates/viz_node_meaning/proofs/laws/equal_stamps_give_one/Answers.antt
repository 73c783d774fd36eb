use Rattle.viz_node_meaning.proofs.ScratchLemmas.{equal_stamps}
use Rattle.viz_node_meaning.proofs.laws.equal_stamps_give_one.Goals as goal

pub returns : goal.returns
returns c = record { law = equal_stamps c.equal_stamps_are_equal_cones.ensures.law }
