-- Marks of the steps at and above a sink (VTK User's Guide, "The visualization pipeline").
use Rattle.std.specs.Prelude.{◌≡◌, ◌↔◌, ℕ, ◌<◌, ◌≤◌, ◌⊎◌, Bool, true, Option, None, Some}
use Rattle.std.specs.Prelude.{List, [], ◌∷◌, length, slice_get, slice_set}
use Rattle.viz_base.specs.declared.node.NodeId.{NodeId}
use Rattle.viz_network.specs.declared.steps.Step.{Step}
use Rattle.viz_network.specs.Network.{Network}
use Rattle.viz_network.specs.Cone.{cone_of, has_node}
use Rattle.viz_network.specs.Step.{nodes_of}

-- marks with one more, where a port is fed
abbrev pub marked : List Bool → Option ℕ → List Bool
marked marks None = marks
marked marks (Some place) = slice_set marks place true

-- marks with all places that feed ports
abbrev pub all_marked : List Bool → List (Option ℕ) → List Bool
all_marked marks [] = marks
all_marked marks (input ∷ inputs) = all_marked (marked marks input) inputs

-- the places that feed ports lie below n
abbrev pub AreBelow : ℕ → List (Option ℕ) → Type 0
AreBelow n inputs = (j p : ℕ) → slice_get inputs j ≡ Some (Some p) → p < n

-- the step at place j is of node x
abbrev pub IsAt : List Step → ℕ → ℕ → Type 0
IsAt steps j x = (id : NodeId) × (slice_get (nodes_of steps) j ≡ Some id) × (x ≡ id.0)

-- node x is that of the step at place j, or lies upstream of it
abbrev pub LiesAbove : Network → List Step → ℕ → ℕ → Type 0
LiesAbove net steps j x = (id : NodeId) × (slice_get (nodes_of steps) j ≡ Some id)
    × (has_node x (cone_of net id.0) ≡ true)

-- of the steps from place k on the marks were passed on: node x is that of such a marked step,
-- or lies above a marked step before them
abbrev pub IsLeft : Network → List Step → List Bool → ℕ → ℕ → Type 0
IsLeft net steps marks k x = (j : ℕ) × (slice_get marks j ≡ Some true)
    × (((k ≤ j) × IsAt steps j x) ⊎ ((j < k) × LiesAbove net steps j x))

-- so the marks tell all that lies above the sink
pub record AreMarks (net : Network) (steps : List Step) (sink k : ℕ)
    (marks : List Bool) : Type 0 where
  pub count : length marks ≡ length steps
  pub above : (x : ℕ) → LiesAbove net steps sink x ↔ IsLeft net steps marks k x
