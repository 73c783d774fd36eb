-- Which ports of a node can be fed (VTK User's Guide, "The visualization pipeline").
use Rattle.std.specs.Prelude.{◌≡◌, ℕ, ◌<◌, List, None}
use Rattle.std.specs.List.{AllByRecursion}
use Rattle.viz_kinds.specs.Kinds.{ports_of}
use Rattle.viz_kinds.specs.Settings.{kind_of}
use Rattle.viz_network.specs.History.{after, net_of}
use Rattle.viz_network.specs.Network.{Network, input_of}
use Rattle.viz_network.specs.declared.edit.Edit.{Edit}
use Rattle.viz_network.specs.declared.node.Node.{Node}

-- no port past those of the node's kind is fed
abbrev pub HasOwnPorts : Node → Type 0
HasOwnPorts n = (port : ℕ) → ports_of (kind_of n.settings) < port → input_of n port ≡ None

-- so of each node of a network
abbrev pub HaveOwnPorts : Network → Type 0
HaveOwnPorts net = AllByRecursion (λ (n : List ℕ × Node). HasOwnPorts n.1) net

-- an edit keeps that
abbrev pub EditsKeepPorts : Type 0
EditsKeepPorts =
    (at : ℕ) (edit : Edit) (net : Network) → HaveOwnPorts net → HaveOwnPorts (after at edit net)

-- so it is in each network of a history
abbrev pub HistoriesKeepPorts : Type 0
HistoriesKeepPorts = (edits : List Edit) → HaveOwnPorts (net_of edits)
