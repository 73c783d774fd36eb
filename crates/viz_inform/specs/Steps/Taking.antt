-- What is told of marked steps, by a table of what is known of all. Only private contracts and
-- proofs speak of it.
use Rattle.std.specs.Prelude.{◌≡◌, ℕ, ◌<◌, Bool, true, List, slice_get, Some, Ok}
use Rattle.viz_base.specs.declared.node.NodeId.{NodeId}
use Rattle.viz_network.specs.declared.steps.Step.{Step}
use Rattle.viz_network.specs.Step.{nodes_of}
use Rattle.viz_node_meaning.specs.declared.information.Information.{Information}
use Rattle.viz_node_rules.specs.Places.{Table}
use Rattle.viz_inform.specs.declared.told.Told.{Told}

-- a marked step, with what is known of it
pub record IsTaken (steps : List Step) (marks : List Bool) (table : Table Information)
    (t : Told) : Type 0 where
  pub place : ℕ
  pub marked : slice_get marks place ≡ Some true
  pub at : slice_get (nodes_of steps) place ≡ Some t.node
  pub known : slice_get table place ≡ Some (Some (Ok t.information))

-- each marked step in front of place k is told, and no other
pub record AreTaken (steps : List Step) (marks : List Bool) (table : Table Information)
    (k : ℕ) (told : List Told) : Type 0 where
  pub each : (i : ℕ) (t : Told) → slice_get told i ≡ Some t → IsTaken steps marks table t
  pub covers : (j : ℕ) (x : NodeId) → j < k → slice_get marks j ≡ Some true
      → slice_get (nodes_of steps) j ≡ Some x
      → (i : ℕ) × (t : Told) × (slice_get told i ≡ Some t) × (t.node ≡ x)
