-- An order in which each node stands behind what feeds it. Only private contracts and proofs speak
-- of it.
use Rattle.std.specs.Prelude.{◌≡◌, ℕ, suc, ◌<◌, ◌≤◌, Bool, true, false, not, nat_eq, filter}
use Rattle.std.specs.Prelude.{if◌then◌else◌, ◌⊎◌, List, [], ◌∷◌, ◌++◌, length, slice_get, Option}
use Rattle.std.specs.Prelude.{None, Some}
use Rattle.std.specs.List.{AllByRecursion}
use Rattle.std.specs.Option.{option_map}
use Rattle.viz_base.specs.declared.node.NodeId.{NodeId}
use Rattle.viz_network.specs.declared.node.Node.{Node}
use Rattle.viz_network.specs.Network.{Network, node_of}
use Rattle.viz_network.specs.Cone.{cone_of, has_node}
use Rattle.viz_network.specs.EqualStamps.{IsAscending}

-- the node is in the list
abbrev pub Has : List NodeId → NodeId → Type 0
Has [] x = ⊥
Has (y ∷ ys) x = (x ≡ y) ⊎ Has ys x

-- what feeds a port is in the list
abbrev pub IsFedFrom : List NodeId → Option NodeId → Type 0
IsFedFrom front None = Unit {0}
IsFedFrom front (Some id) = Has front id

-- behind the front stand nodes of the network, each behind what feeds it
abbrev pub Stands : Network → List NodeId → List NodeId → Type 0
Stands net front [] = Unit {0}
Stands net front (x ∷ xs) = (n : Node) × (node_of net x.0 ≡ Some n)
    × AllByRecursion (IsFedFrom front) n.inputs × Stands net (front ++ x ∷ []) xs

-- an order of all nodes
pub record IsOrder (net : Network) (order : List NodeId) : Type 0 where
  pub stands : Stands net [] order
  pub covers : (x : ℕ) (n : Node) → node_of net x ≡ Some n → Has order n.id
  pub ascending : IsAscending net
  pub short : length order ≤ length net
  pub few : length net ≤ 256

-- whether the first node stands in front of each place of the second
abbrev pub comes_first : ℕ → ℕ → List NodeId → Bool
comes_first first second [] = false
comes_first first second (x ∷ xs) = if nat_eq second x.0 then false else if nat_eq first x.0
    then true else comes_first first second xs

-- the nodes without a mark, and then those with one
abbrev pub parted : (NodeId → Bool) → List NodeId → List NodeId
parted late order = filter (λ x. not (late x)) order ++ filter late order

-- whether the node lies downstream of another, or is it
abbrev pub is_late : Network → ℕ → NodeId → Bool
is_late net to x = has_node to (cone_of net x.0)

-- what feeds a port stands before place k
abbrev pub IsBefore : List NodeId → ℕ → Option NodeId → Type 0
IsBefore order k None = Unit {0}
IsBefore order k (Some id) = (j : ℕ) × (j < k) × (slice_get order j ≡ Some id)

-- the same order, by places
pub record IsTale (net : Network) (order : List NodeId) : Type 0 where
  pub each : (k : ℕ) (x : NodeId) → slice_get order k ≡ Some x → (n : Node)
      × (node_of net x.0 ≡ Some n) × AllByRecursion (IsBefore order k) n.inputs
  pub short : length order ≤ 256

-- the rank of a node among those of the network
abbrev pub rank_of : Network → ℕ → Option ℕ
rank_of [] id = None
rank_of (n ∷ net) id = if nat_eq id n.1.id.0 then Some 0 else option_map suc (rank_of net id)
