-- The cone of a node: the node and all that lies upstream of it, as a tree in which a node that
-- feeds two ports stands twice (VTK User's Guide, "The visualization pipeline").
use Rattle.std.specs.Prelude.{ℕ, zero, suc, max, nat_eq, Bool, false, ◌||◌, List, [], ◌∷◌, Option}
use Rattle.std.specs.Prelude.{None, Some}
use Rattle.std.specs.Option.{option_map, option_map_or}
use Rattle.viz_base.specs.declared.node.NodeId.{NodeId}
use Rattle.viz_network.specs.declared.node.Node.{Node}
use Rattle.viz_network.specs.Network.{Network, node_of}

-- the ports of a node, ascending: each is empty, or fed by a node with its own ports
pub data Cone : Type 0 where
  none : Cone
  empty : Cone → Cone
  fed : Node → Cone → Cone → Cone

-- a node, and what feeds its ports
abbrev pub Tree : Type 0
Tree = Node × Cone

-- one port before the others
abbrev pub port : Option Tree → Cone → Cone
port None others = empty others
port (Some t) others = fed t.0 t.1 others

-- the ports with what feeds each
abbrev pub grow : (ℕ → Option Tree) → List (Option NodeId) → Cone
grow up [] = none
grow up (None ∷ inputs) = empty (grow up inputs)
grow up (Some id ∷ inputs) = port (up id.0) (grow up inputs)

-- a node with what lies fewer than so many connections upstream
abbrev pub above : ℕ → Network → ℕ → Option Tree
above zero net id = None
above (suc n) net id = option_map (λ node. (node, grow (above n net) node.inputs)) (node_of net id)

-- the most nodes of a network, so also of a way through it
abbrev pub nodes_limit : ℕ
nodes_limit = 256

-- the cone of the node with this position of its Add
abbrev pub cone_of : Network → ℕ → Option Tree
cone_of net id = above nodes_limit net id

-- what the nodes that feed the ports have, joined
abbrev pub joined : {X : Type 0} → (X → X → X) → X → (Node → X) → Cone → X
joined join start own none = start
joined join start own (empty others) = joined join start own others
joined join start own (fed node ports others) = join
    (join (own node) (joined join start own ports)) (joined join start own others)

-- what the nodes of a cone have, joined
abbrev pub total : {X : Type 0} → (X → X → X) → X → (Node → X) → Option Tree → X
total join start own t = option_map_or (λ t. join (own t.0) (joined join start own t.1)) t start

-- one of the two holds
abbrev pub either : Bool → Bool → Bool
either a b = a || b

-- whether the node with this position is in the cone
abbrev pub has_node : ℕ → Option Tree → Bool
has_node id t = total either false (λ n. nat_eq id n.id.0) t

-- the position that last stamped a node
abbrev pub own_stamp : Node → ℕ
own_stamp n = n.stamp

-- the greatest position that stamped a node of the cone
abbrev pub newest : Option Tree → ℕ
newest t = total max 0 own_stamp t

-- the stamp of a node: the greatest position that stamped a node of its cone
abbrev pub stamp_of : Network → ℕ → Option ℕ
stamp_of net id = option_map (λ t. newest (Some t)) (cone_of net id)
