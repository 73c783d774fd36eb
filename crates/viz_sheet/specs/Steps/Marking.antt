-- Marks of the ranks of cells, one cell after the other.
use Rattle.std.specs.Prelude.{◌≡◌, ℕ, Bool, true, false, ◌⊎◌, List, length, Contains}
use Rattle.std.specs.Prelude.{slice_index_or}

-- the ranks of a cell are marked as well, and no others
pub record IsMarkedBy (old : List Bool) (cell : List ℕ) (new : List Bool) : Type 0 where
  pub size : length new ≡ length old
  pub kept : (r : ℕ) → slice_index_or old r false ≡ true → slice_index_or new r false ≡ true
  pub added : (r : ℕ) → Contains cell r → slice_index_or new r false ≡ true
  pub only : (r : ℕ) → slice_index_or new r false ≡ true → (slice_index_or old r false ≡ true)
      ⊎ Contains cell r
