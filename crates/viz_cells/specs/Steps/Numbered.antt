-- Cells by keys, and the same cells by the ranks of the keys.
use Rattle.std.specs.Prelude.{◌≡◌, ◌↔◌, ◌⊎◌, ℕ, ◌<◌, ◌≤◌, ◌^◌, List, length, map, All, Contains}
use Rattle.std.specs.Prelude.{slice_index_or}
use Rattle.std.specs.List.{flat_map}
use Rattle.std.specs.List.Sorted.{IsStrictlySortedBy}
use Rattle.std.specs.Ordering.{nat_cmp}

-- the keys of cells, each once, ascending
pub record AreKeysOf (pieces : List (List ℕ)) (keys : List ℕ) : Type 0 where
  pub ascending : IsStrictlySortedBy nat_cmp keys
  pub members : (k : ℕ) → Contains keys k ↔ Contains (flat_map (λ piece. piece) pieces) k

-- a list with just the keys of cells, in any order and however often
pub record AreEndsOf (pieces : List (List ℕ)) (ends : List ℕ) : Type 0 where
  pub members : (k : ℕ) → Contains ends k ↔ Contains (flat_map (λ piece. piece) pieces) k

-- a list with the keys of another one, and some more
pub record AreAdded (old more new : List ℕ) : Type 0 where
  pub members : (k : ℕ) → Contains new k ↔ (Contains old k ⊎ Contains more k)

-- few keys that ascend, among them those of all cells
pub record HasKeys (keys : List ℕ) (pieces : List (List ℕ)) : Type 0 where
  pub ascending : IsStrictlySortedBy nat_cmp keys
  pub few : length keys ≤ 2 ^ 32
  pub has : All (All (Contains keys)) pieces

-- the keys at ranks
abbrev pub keys_at : List ℕ → List ℕ → List ℕ
keys_at keys cell = map (λ r. slice_index_or keys r 0) cell

-- a cell by ranks has these keys
pub record IsNumbered (keys piece cell : List ℕ) : Type 0 where
  pub same : keys_at keys cell ≡ piece
  pub below : All (λ r. r < length keys) cell

-- each of the cells has
pub record AreNumbered (keys : List ℕ) (pieces cells : List (List ℕ)) : Type 0 where
  pub same : map (keys_at keys) cells ≡ pieces
  pub below : All (All (λ r. r < length keys)) cells
