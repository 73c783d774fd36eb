use Rattle.viz_node_total.proofs.NetworkLemmas.{cones_inform, nodes_inform}
use Rattle.viz_node_total.proofs.laws.information_is_given.Goals as goal

pub returns : goal.returns
returns c = record {
  cones = cones_inform c.files_are_definite.ensures.header;
  nodes = nodes_inform c.files_are_definite.ensures.header;
}
