use Rattle.viz_node_narrow.proofs.NodeLemmas.{given_narrow, narrow_given}
use Rattle.viz_node_narrow.proofs.laws.given_sections_are_narrow.Goals as goal

pub returns : goal.returns
returns c = record { given = narrow_given; narrow = given_narrow c.rules_are_one.ensures.data }
