-- A network is its nodes in the order of their Adds, each with its name (VTK User's Guide, "The
-- visualization pipeline").
use Rattle.std.specs.Prelude.{ℕ, ◌-◌, nat_eq, if◌then◌else◌, List, [], ◌∷◌, slice_index_or, Option}
use Rattle.std.specs.Prelude.{None, Some}
use Rattle.std.specs.Cmp.Lexicographic.{pointwise}
use Rattle.std.specs.Map.{lookup, remove_entry}
use Rattle.viz_base.specs.declared.node.NodeId.{NodeId}
use Rattle.viz_network.specs.declared.node.Node.{Node}

-- nodes with their names, in the order of their Adds
abbrev pub Network : Type 0
Network = List (List ℕ × Node)

-- the node of this name
abbrev pub named : Network → List ℕ → Option Node
named net name = lookup (pointwise nat_eq name) net

-- the node with this position of its Add
abbrev pub node_of : Network → ℕ → Option Node
node_of [] id = None
node_of (n ∷ net) id = if nat_eq id n.1.id.0 then Some n.1 else node_of net id

-- the name of the node with this position of its Add
abbrev pub name_of : Network → ℕ → Option (List ℕ)
name_of [] id = None
name_of (n ∷ net) id = if nat_eq id n.1.id.0 then Some n.0 else name_of net id

-- the network with another node under this name
abbrev pub change : (Node → Node) → Network → List ℕ → Network
change f [] name = []
change f (n ∷ net) name = if pointwise nat_eq name n.0 then (n.0, f n.1) ∷ net
    else n ∷ change f net name

-- the network without the node of this name
abbrev pub without : Network → List ℕ → Network
without net name = remove_entry (pointwise nat_eq name) net

-- what feeds a port, which are numbered from 1
abbrev pub input_of : Node → ℕ → Option NodeId
input_of n port = slice_index_or n.inputs (port - 1) None
