-- What nodes give, in a table by the places of their steps (VTK User's Guide, "The visualization
-- pipeline").
use Rattle.std.specs.Prelude.{◌≡◌, ℕ, ◌<◌, Option, None, Some, Result, Ok, Err}
use Rattle.std.specs.Prelude.{List, [], ◌∷◌, length, map, slice_get}
use Rattle.viz_base.specs.declared.node.NodeId.{NodeId}
use Rattle.viz_network.specs.declared.fault.Fault.{Fault}
use Rattle.viz_network.specs.declared.steps.Step.{Step}
use Rattle.viz_network.specs.Cone.{cone_of}
use Rattle.viz_network.specs.Network.{Network}
use Rattle.viz_network.specs.Step.{nodes_of}
use Rattle.viz_node_rules.specs.Places.{Table, entry_at, value_at, AreSoundIn}
use Rattle.viz_node_meaning.specs.Rules.{Inputs, NodeRule}
use Rattle.viz_node_meaning.specs.Fold.{IsGiven}

-- the fault that a place has
abbrev pub fault_of : {X : Type 0} → Option (Result X Fault) → Option Fault
fault_of (Some (Err fault)) = Some fault
fault_of (Some (Ok x)) = None
fault_of None = None

-- the first of two
abbrev pub first_of : Option Fault → Option Fault → Option Fault
first_of (Some fault) later = Some fault
first_of None later = later

-- the first fault at the places that feed the ports
abbrev pub first_fault : {X : Type 0} → Table X → List (Option ℕ) → Option Fault
first_fault table [] = None
first_fault table (None ∷ places) = first_fault table places
first_fault table (Some place ∷ places) =
    first_of (fault_of (entry_at table place)) (first_fault table places)

-- a fault, or values
abbrev pub faulted : {X : Type 0} → Option Fault → Inputs X → Result (Inputs X) Fault
faulted (Some fault) values = Err fault
faulted None values = Ok values

-- what the table has of the ports
abbrev pub told : {X : Type 0} → Table X → List (Option ℕ) → Result (Inputs X) Fault
told table places = faulted (first_fault table places) (map (value_at table) places)

-- the table has what feeds each port
abbrev pub HasInputs : {X : Type 0} → Table X → List (Option ℕ) → Type 0
HasInputs table [] = Unit {0}
HasInputs table (None ∷ places) = HasInputs table places
HasInputs {X} table (Some place ∷ places) =
    ((value : Result X Fault) × (slice_get table place ≡ Some (Some value)))
    × HasInputs table places

-- the table of the first k steps: what it has is given by the rule and sound, and it has what is
-- needed from step k on
pub record IsTable {X : Type 0} (rule : NodeRule X) (P : X → Type 0) (needs : ℕ → ℕ → Type 0)
    (net : Network) (steps : List Step) (k : ℕ) (table : Table X) : Type 0 where
  pub count : length table ≡ k
  pub given : (j : ℕ) (id : NodeId) (value : Result X Fault) → slice_get table j ≡ Some (Some value)
      → slice_get (nodes_of steps) j ≡ Some id → IsGiven rule (cone_of net id.0) value
  pub sound : AreSoundIn P table
  pub kept : (j : ℕ) → j < k → needs j k
      → (value : Result X Fault) × (slice_get table j ≡ Some (Some value))

-- nothing is said of what is known
abbrev pub anything : {X : Type 0} → X → Type 0
anything x = Unit {0}

-- what each step gives is needed at all later ones
abbrev pub always : ℕ → ℕ → Type 0
always j k = Unit {0}
