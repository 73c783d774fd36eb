use Rattle.viz_node_division.proofs.PortLemmas.{by_ports}
use Rattle.viz_node_division.proofs.laws.divided_by_ports.Goals as goal

pub returns : goal.returns
returns c = record { ports = by_ports }
