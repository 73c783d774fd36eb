-- Numbers in place of ranks.
use Rattle.std.specs.Prelude.{ℕ, List, map, slice_index_or}

-- the numbers at the ranks of a cell
unfoldable pub looked_up : List ℕ → List ℕ → List ℕ
looked_up numbers cell = map (λ r. slice_index_or numbers r 0) cell
