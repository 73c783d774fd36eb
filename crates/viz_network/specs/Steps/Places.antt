-- Where in an order each node stands, in a table by rank that is filled in order. Only private
-- contracts and proofs speak of it.
use Rattle.std.specs.Prelude.{◌≡◌, ℕ, ◌<◌, List, length, slice_get, slice_index_or, Option, None}
use Rattle.std.specs.Prelude.{Some}
use Rattle.std.specs.Option.{option_map}
use Rattle.viz_base.specs.declared.node.NodeId.{NodeId}
use Rattle.viz_network.specs.declared.steps.Step.{Step}
use Rattle.viz_network.specs.Network.{Network}
use Rattle.viz_network.specs.Step.{IsStepOf}
use Rattle.viz_network.specs.Steps.Order.{rank_of}

-- what the table has of what feeds a port
abbrev pub place_told : Network → List ℕ → Option NodeId → Option ℕ
place_told net table None = None
place_told net table (Some id) = option_map (λ i. slice_index_or table i 0) (rank_of net id.0)

-- the table has a place of each of the first k nodes of the order
abbrev pub ArePlaces : Network → List NodeId → ℕ → List ℕ → Type 0
ArePlaces net order k table = (j : ℕ) (x : NodeId) (i : ℕ) → j < k → slice_get order j ≡ Some x
    → rank_of net x.0 ≡ Some i
    → (p : ℕ) × (p < k) × (slice_get table i ≡ Some p) × (slice_get order p ≡ Some x)

-- the first k steps, and the table of their places
pub record AreFirstSteps (net : Network) (order : List NodeId) (k : ℕ) (table : List ℕ)
    (steps : List Step) : Type 0 where
  pub each : (j : ℕ) (s : Step) → slice_get steps j ≡ Some s → (slice_get order j ≡ Some s.node)
      × IsStepOf net order j s
  pub places : ArePlaces net order k table
  pub long : length table ≡ 256
  pub count : length steps ≡ k
