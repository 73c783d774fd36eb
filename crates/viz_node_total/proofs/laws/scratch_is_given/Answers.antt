use Rattle.viz_node_total.proofs.NetworkLemmas.{
  cones_give,
  given_are_valid,
  histories_give,
  nodes_give,
}
use Rattle.viz_node_total.proofs.laws.scratch_is_given.Goals as goal

pub returns : goal.returns
returns c =
    let headers = c.files_are_definite.ensures.header in
    let files = c.files_are_definite.ensures.file in
    let cones = cones_give headers files in
    let nodes = nodes_give cones in
    record {
      cones = cones;
      nodes = nodes;
      histories = histories_give nodes;
      valid = given_are_valid headers files c.rules_are_one.ensures.data;
    }
