-- What each node's cone has, in a table by rank that is filled in order. Only private contracts
-- and proofs speak of it.
use Rattle.std.specs.Prelude.{◌≡◌, ℕ, ◌<◌, ◌≤◌, Bool, false, not, if◌then◌else◌, List, [], ◌∷◌}
use Rattle.std.specs.Prelude.{length, slice_get, slice_index_or, Option, None, Some}
use Rattle.std.specs.Option.{option_map_or}
use Rattle.viz_base.specs.declared.node.NodeId.{NodeId}
use Rattle.viz_network.specs.declared.node.Node.{Node}
use Rattle.viz_network.specs.Network.{Network}
use Rattle.viz_network.specs.Cone.{cone_of, stamp_of, total}
use Rattle.viz_network.specs.Steps.Order.{rank_of}
use Rattle.viz_network.specs.EqualStamps.{IsAscending}

-- the table has what is joined over the cone of each of the first k nodes of the order
abbrev pub IsTold : {X : Type 0} → (X → X → X) → X → (Node → X) → Network → List NodeId → ℕ
    → List X → Type 0
IsTold join start own net order k table = (j : ℕ) (x : NodeId) (i : ℕ) → j < k
    → slice_get order j ≡ Some x → rank_of net x.0 ≡ Some i
    → slice_get table i ≡ Some (total join start own (cone_of net x.0))

-- what the table has of a node
abbrev pub told : {X : Type 0} → X → Network → List X → ℕ → X
told start net table id = option_map_or (λ i. slice_index_or table i start) (rank_of net id) start

-- what the table has of the nodes that feed the ports, joined
abbrev pub ports_told : {X : Type 0} → (X → X → X) → X → Network → List X → List (Option NodeId) → X
ports_told join start net table [] = start
ports_told join start net table (None ∷ inputs) = ports_told join start net table inputs
ports_told join start net table (Some id ∷ inputs) = join (told start net table id.0)
    (ports_told join start net table inputs)

-- whether the table has a mark of the node
abbrev pub is_marked : Network → List Bool → NodeId → Bool
is_marked net marks x = told false net marks x.0

-- whether the node is one of those with a mark, or one of the others
abbrev pub is_kept : Bool → Network → List Bool → NodeId → Bool
is_kept late net marks x = if late then is_marked net marks x else not (is_marked net marks x)

-- the table has the stamp of each node at its rank
pub record IsStamped (net : Network) (table : List ℕ) : Type 0 where
  pub each : (id : ℕ) (rank : ℕ) → rank_of net id ≡ Some rank
      → slice_get table rank ≡ stamp_of net id
  pub size : length table ≡ 256
  pub ascending : IsAscending net
  pub few : length net ≤ 256
