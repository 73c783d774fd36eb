use Rattle.viz_node_gives.proofs.GivesLemmas.{nodes_make}
use Rattle.viz_node_gives.proofs.laws.nodes_make_exact.Goals as goal

pub returns : goal.returns
returns c = record {
  made = nodes_make c.rules_are_one.ensures.information c.told_is_of_datasets.ensures.some
      c.datasets_are_divided.ensures.given;
}
