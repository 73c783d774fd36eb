-- Keys whose set no other key has, and marks at their indices.
use Rattle.std.specs.Prelude.{◌≡◌, ◌≢◌, ℕ, ◌+◌, ◌-◌, ◌/◌, ◌%◌, ◌<◌, ◌≤◌, ◌^◌, ◌==◌, Bool, true}
use Rattle.std.specs.Prelude.{false, List, length, slice_index_or, count_by}

-- the set of a key
abbrev pub set_of : ℕ → ℕ
set_of key = key / 2 ^ 32

-- the index of a key
abbrev pub index_of : ℕ → ℕ
index_of key = key % 2 ^ 32

-- how many keys have a set
abbrev pub times : List ℕ → ℕ → ℕ
times keys set = count_by (λ k. set_of k == set) keys

-- the set of the key at a place is that of no other
unfoldable pub is_alone : List ℕ → ℕ → Bool
is_alone keys at = times keys (set_of (slice_index_or keys at 0)) == 1

-- each key has its own index, and there are few
pub record AreIndexed (keys : List ℕ) : Type 0 where
  pub few : length keys ≤ 2 ^ 32
  pub each : (j : ℕ) → j < length keys → index_of (slice_index_or keys j 0) ≡ j

-- of the first so many keys, just the indices of those that are alone are marked
pub record AreMarked (keys : List ℕ) (count : ℕ) (marks : List Bool) : Type 0 where
  pub size : length marks ≡ length keys
  pub set : (k : ℕ) → k < count → is_alone keys k ≡ true
      → slice_index_or marks (index_of (slice_index_or keys k 0)) false ≡ true
  pub only : (j : ℕ) → slice_index_or marks j false ≡ true → (k : ℕ) × (k < count)
      × (index_of (slice_index_or keys k 0) ≡ j) × (is_alone keys k ≡ true)

-- each index of a key is below their number
pub record HaveIndices (keys : List ℕ) : Type 0 where
  pub below : (k : ℕ) → k < length keys → index_of (slice_index_or keys k 0) < length keys

-- each mark tells whether the key at its index is alone
pub record TellAlone (keys : List ℕ) (marks : List Bool) : Type 0 where
  pub size : length marks ≡ length keys
  pub each : (j : ℕ) → j < length keys → slice_index_or marks j false ≡ is_alone keys j

-- the key in front of a place has another set
pub record Begins (keys : List ℕ) (at : ℕ) : Type 0 where
  pub other : 0 < at → set_of (slice_index_or keys (at - 1) 0) ≢ set_of (slice_index_or keys at 0)

-- the key behind a place has another set
pub record Ends (keys : List ℕ) (at : ℕ) : Type 0 where
  pub other : at + 1 < length keys → set_of (slice_index_or keys (at + 1) 0) ≢ set_of
      (slice_index_or keys at 0)
