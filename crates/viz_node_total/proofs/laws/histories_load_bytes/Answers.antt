use Rattle.viz_node_total.proofs.NetworkLemmas.{cones_have_bytes, histories_have_bytes}
use Rattle.viz_node_total.proofs.laws.histories_load_bytes.Goals as goal

pub returns : goal.returns
returns c = record { histories = histories_have_bytes; cones = cones_have_bytes }
