-- The two nodes of the fixed history. Only private contracts and proofs speak of them.
use Rattle.std.specs.Prelude.{ℕ, zero, suc, pos, false, List, [], ◌∷◌}
use Rattle.std.specs.Prelude.{replicate, None, Some}
use Rattle.viz_base.specs.declared.node.NodeId.{NodeId}
use Rattle.viz_base.specs.declared.node.Pick.TheVariants.{First}
use Rattle.viz_kinds.specs.declared.settings.Settings.{Settings}
use Rattle.viz_kinds.specs.declared.settings.Settings.TheVariants as settings
use Rattle.viz_network.specs.declared.fault.Stop.{Stop}
use Rattle.viz_network.specs.declared.fault.Stop.TheVariants as stop
use Rattle.viz_network.specs.declared.node.Node.{Node}
use Rattle.viz_network.specs.Cone.{Cone, none, empty, fed, Tree}
use Rattle.viz_network.specs.Network.{Network}
use Rattle.viz_node_meaning.specs.Rules.{Inputs}
use Rattle.viz_node_rules.specs.declared.stop.OwnStop.{OwnStop}
use Rattle.viz_node_rules.specs.declared.stop.OwnStop.TheVariants as own
use Rattle.viz_once.specs.declared.command.NodeFilter.{NodeFilter}
use Rattle.viz_once.specs.declared.command.NodeFilter.TheVariants.{Threshold, Contour}
use Rattle.viz_once.specs.FixedHistory.{source, op, source_id, op_id}

-- the parameters of the filter's node
abbrev pub settings_of : NodeFilter → Settings
settings_of (Threshold lo hi) = settings.Threshold lo hi
settings_of (Contour level) = settings.Contour 1 (level ∷ replicate 7 (pos 0))

-- the source
abbrev pub source_node : List ℕ → Node
source_node bytes = record {
  id = record { 0 = source_id };
  settings = settings.File First 0;
  release = false;
  inputs = replicate 8 None;
  file = Some bytes;
  stamp = 2;
}

-- the filter's node
abbrev pub op_node : NodeFilter → Node
op_node filter = record {
  id = record { 0 = op_id };
  settings = settings_of filter;
  release = false;
  inputs = Some (record { 0 = source_id }) ∷ replicate 7 None;
  file = None;
  stamp = 5;
}

-- both, with their names
abbrev pub made_network : NodeFilter → List ℕ → Network
made_network filter bytes = (source, source_node bytes) ∷ (op, op_node filter) ∷ []

-- ---- the cone

-- so many empty ports
abbrev pub empties : ℕ → Cone
empties zero = none
empties (suc n) = empty (empties n)

-- a node whose first port another feeds, to which nothing is connected
abbrev pub tree_of : Node → Node → Tree
tree_of src node = (node, fed src (empties 8) (empties 7))

-- so many empty ports, with what feeds them
abbrev pub nothing : {X : Type 0} → ℕ → Inputs X
nothing n = replicate n None

-- one port that is fed, and seven empty ones
abbrev pub fed_by : {X : Type 0} → X → Inputs X
fed_by x = Some x ∷ nothing 7

-- ---- stops

-- why a node stopped, as a stop of the evaluation
abbrev pub stop_at : NodeId → OwnStop → Stop
stop_at node (own.Cause cause) = stop.Fault (record { node = node; cause = cause })
stop_at node own.Memory = stop.Memory
