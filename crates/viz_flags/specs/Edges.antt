-- The edges of a grid by number: eight numbers for each lower leaf, of which seven are directions
-- (Kuhn 1960).
use Rattle.std.specs.Prelude.{ℕ, ◌+◌, ◌/◌, ◌%◌, List, [], ◌∷◌, map, slice_index_or}
use Rattle.viz_grid_section.specs.Edges.{Edge}

-- how far the upper leaf of an edge is from the lower one, by its direction, where a row and a
-- plane of points are so long; the eighth is none
abbrev pub step_of : ℕ → ℕ → ℕ → ℕ
step_of row plane d =
    slice_index_or (1 ∷ row ∷ (row + 1) ∷ plane ∷ (plane + 1) ∷ (plane + row) ∷ (plane + row + 1) ∷
    (plane + row + 2) ∷ []) d 0

-- the edge with a number
unfoldable pub edge : ℕ → ℕ → ℕ → Edge
edge row plane n = record { low = n / 8; high = n / 8 + step_of row plane (n % 8) }

-- cells by edges, from cells by the numbers of edges
abbrev pub cells_by : ℕ → ℕ → List (List ℕ) → List (List Edge)
cells_by row plane cells = map (λ cell. map (edge row plane) cell) cells

-- the name of an edge of a window whose first leaf has this number: both leaves
abbrev pub leaves_from : ℕ → Edge → List ℕ
leaves_from first e = (first + e.low) ∷ (first + e.high) ∷ []
