-- Levels reckoned by the places of steps. Only private contracts and proofs speak of it.
use Rattle.std.specs.Prelude.{◌≡◌, ℕ, max, Bool, List, [], ◌∷◌, ◌++◌, map, slice_get, slice_set}
use Rattle.std.specs.Prelude.{Option, None, Some}
use Rattle.std.specs.Option.{option_map_or}
use Rattle.viz_base.specs.declared.node.NodeId.{NodeId}
use Rattle.viz_parts.specs.declared.request.Part.{Part}
use Rattle.viz_parts.specs.declared.request.Request.{Request}
use Rattle.viz_plan_meaning.specs.Levels.{Tasks, above_entry, above_first, at_level, needs_of}
use Rattle.viz_plan_walk.specs.declared.levels.Levelled.{Levelled}

-- a task with its level
abbrev pub task_of : Levelled → (ℕ × Request) × ℕ
task_of x = ((x.need.node.0, x.need.request), x.level)

-- the tasks of a table with their levels
abbrev pub levelled : List Levelled → Tasks Request
levelled table = map task_of table

-- one of the lists has an item more
pub record IsPushed {T V : Type 0} (items : V → List T) (at : ℕ) (x : T)
    (old new : List V) : Type 0 where
  pub before : V
  pub after : V
  pub there : slice_get old at ≡ Some before
  pub longer : items after ≡ items before ++ x ∷ []
  pub is : new ≡ slice_set old at after

-- each list has the tasks of its level, in order
pub record AreAtLevels {V : Type 0} (needs : V → List (ℕ × Request)) (t : Tasks Request)
    (lists : List V) : Type 0 where
  pub each : (j : ℕ) (v : V) → slice_get lists j ≡ Some v → needs v ≡ needs_of (at_level j t)

-- with a task more they have those of one task more
abbrev pub PutsTask : {V : Type 0} → (V → List (ℕ × Request)) → (ℕ × Request) × ℕ → List V → List V
    → Type 0
PutsTask needs x old new =
    (t : Tasks Request) → AreAtLevels needs t old → AreAtLevels needs (t ++ x ∷ []) new

module _ (serves : Request → Request → Bool) (kept : ℕ → Request → Option (Request × Part))
    (widen : ℕ → Request → Request) (order : List NodeId) where
  -- one more than the level of what serves a request to a node
  abbrev pub above_node : Tasks Request → Request → NodeId → ℕ
  above_node t r x = above_entry (kept x.0 (widen x.0 r)) (above_first serves t x.0 (widen x.0 r))

  -- one more than the highest level of what serves a request to the nodes at places
  abbrev pub above_by : Tasks Request → Request → List (Option ℕ) → ℕ
  above_by t r [] = 0
  above_by t r (None ∷ places) = above_by t r places
  above_by t r (Some p ∷ places) =
      max (option_map_or (above_node t r) (slice_get order p) 0) (above_by t r places)
