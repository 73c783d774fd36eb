-- Where the stamps of a node are equal, its cone is (VTK User's Guide, "The visualization
-- pipeline": modification times).
use Rattle.std.specs.Prelude.{◌≡◌, ℕ, ◌<◌, ◌≤◌, List, [], ◌∷◌, ◌++◌, length, Option, None, Some}
use Rattle.std.specs.List.{AllByRecursion}
use Rattle.viz_base.specs.declared.node.NodeId.{NodeId}
use Rattle.viz_network.specs.declared.node.Node.{Node}
use Rattle.viz_network.specs.declared.edit.Edit.{Edit}
use Rattle.viz_network.specs.Network.{Network, node_of}
use Rattle.viz_network.specs.Cone.{cone_of, stamp_of}
use Rattle.viz_network.specs.History.{net_of}

-- what feeds a port is a node of the network
abbrev pub IsFed : Network → Option NodeId → Type 0
IsFed net None = Unit {0}
IsFed net (Some id) = (n : Node) × (node_of net id.0 ≡ Some n)

-- what feeds each port of each node is a node of the network
abbrev pub IsClosed : Network → Type 0
IsClosed net = (x : ℕ) (n : Node) → node_of net x ≡ Some n → AllByRecursion (IsFed net) n.inputs

-- the nodes ascend strictly by the positions of their Adds, so that no position stands twice
abbrev pub IsAscending : Network → Type 0
IsAscending [] = Unit {0}
IsAscending (n ∷ net) = AllByRecursion (λ (m : List ℕ × Node). n.1.id.0 < m.1.id.0) net
    × IsAscending net

-- no Add and no stamp is past p
abbrev pub IsUpTo : ℕ → Network → Type 0
IsUpTo p net = AllByRecursion (λ (n : List ℕ × Node). (n.1.id.0 ≤ p) × (n.1.stamp ≤ p)) net

-- what each network of a history keeps
pub record IsSound (p : ℕ) (net : Network) : Type 0 where
  pub closed : IsClosed net
  pub ascending : IsAscending net
  pub up_to : IsUpTo p net

-- a node with equal stamps in the networks of a history and of a longer one has equal cones in them
abbrev pub EqualStamps : Type 0
EqualStamps = (edits more : List Edit) (id stamp : ℕ) → stamp_of (net_of edits) id ≡ Some stamp
    → stamp_of (net_of (edits ++ more)) id ≡ Some stamp
    → cone_of (net_of edits) id ≡ cone_of (net_of (edits ++ more)) id

-- a node whose stamp in the network of a longer history isn't past the history has it in the
-- network of the history: no edit gives a stamp of the past
abbrev pub StampsStay : Type 0
StampsStay = (edits more : List Edit) (id stamp : ℕ) → stamp ≤ length edits
    → stamp_of (net_of (edits ++ more)) id ≡ Some stamp → stamp_of (net_of edits) id ≡ Some stamp
