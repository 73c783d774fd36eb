-- What is given up of a table of what nodes give. Only private contracts and proofs speak of it.
use Rattle.std.specs.Prelude.{◌≡◌, ℕ, ◌<◌, ◌≤◌, Some, Result}
use Rattle.std.specs.Prelude.{List, length, slice_get, slice_index_or}
use Rattle.viz_network.specs.declared.fault.Fault.{Fault}
use Rattle.viz_node_rules.specs.Places.{Table}

-- what a step gives is read at step k or later
abbrev pub is_read : List ℕ → ℕ → ℕ → Type 0
is_read last j k = (0 < slice_index_or last j 0) × (k ≤ slice_index_or last j 0)

-- some of what isn't read behind step k is given up, and all else stays
pub record IsReleased {X : Type 0} (last : List ℕ) (k : ℕ) (old new : Table X) : Type 0 where
  pub count : length new ≡ length old
  pub kept : (j : ℕ) → k < slice_index_or last j 0 → slice_get new j ≡ slice_get old j
  pub same : (j : ℕ) (value : Result X Fault) → slice_get new j ≡ Some (Some value)
      → slice_get old j ≡ Some (Some value)
