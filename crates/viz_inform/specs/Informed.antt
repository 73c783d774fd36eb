-- What is known of the nodes of a cone before their numbers are, or its first fault
-- (VTK User's Guide, the executive: the information pass).
use Rattle.std.specs.Prelude.{◌≡◌, ℕ, true, List, slice_get, Option, None, Some, Result, Ok, Err}
use Rattle.viz_network.specs.declared.fault.Fault.{Fault}
use Rattle.viz_network.specs.declared.fault.Stop.{Stop}
use Rattle.viz_network.specs.declared.fault.Stop.TheVariants as stop
use Rattle.viz_network.specs.Cone.{cone_of, has_node}
use Rattle.viz_network.specs.Network.{Network}
use Rattle.viz_node_meaning.specs.Fold.{IsGiven}
use Rattle.viz_node_meaning.specs.Information.{InformationRule}
use Rattle.viz_node_meaning.specs.declared.information.Information.{Information}
use Rattle.viz_inform.specs.declared.told.Told.{Told}

-- a node of the cone, with what the information rule gives of it
pub record IsTold (net : Network) (id : ℕ) (t : Told) : Type 0 where
  pub upstream : has_node t.node.0 (cone_of net id) ≡ true
  pub given : IsGiven InformationRule (cone_of net t.node.0) (Ok t.information)

-- so each node of a node's cone is told, and no other
pub record AreTold (net : Network) (id : ℕ) (told : List Told) : Type 0 where
  pub each : (k : ℕ) (t : Told) → slice_get told k ≡ Some t → IsTold net id t
  pub covers : (x : ℕ) → has_node x (cone_of net id) ≡ true
      → (k : ℕ) × (t : Told) × (slice_get told k ≡ Some t) × (t.node.0 ≡ x)

-- a stop is the first information fault at or above a node, unless memory ran out
abbrev pub IsFirstFault : Network → ℕ → Stop → Type 0
IsFirstFault net id (stop.Fault fault) = IsGiven InformationRule (cone_of net id) (Err fault)
IsFirstFault net id stop.Memory = Unit {0}

-- the first information fault, or that there is none
abbrev pub IsInformedAs : (Result Information Fault → Type 0) → Option Fault → Type 0
IsInformedAs given (Some fault) = given (Err fault)
IsInformedAs given None = (i : Information) × given (Ok i)
