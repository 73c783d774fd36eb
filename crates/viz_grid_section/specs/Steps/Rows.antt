-- The cells of a grid by layers, rows and cubes: words of private contracts alone.
use Rattle.std.specs.Prelude.{ℕ, ◌+◌, ◌*◌, Bool, List, [], ◌∷◌, slice_index}
use Rattle.std.specs.List.{flat_map, range_with_len}
use Rattle.viz_grid_section.specs.Edges.{Edge}
use Rattle.viz_grid_section.specs.GridSection.{cells_in}

-- the leaves of a cube by bits x y z, where the lowest leaf, a row and a plane have these numbers
abbrev pub eight_from : ℕ → ℕ → ℕ → List ℕ
eight_from lowest row plane =
    lowest
    ∷ (lowest + plane)
    ∷ (lowest + row)
    ∷ (lowest + row + plane)
    ∷ (lowest + 1)
    ∷ (lowest + 1 + plane)
    ∷ (lowest + 1 + row)
    ∷ (lowest + 1 + row + plane)
    ∷ []

-- the six tetrahedra between eight leaves by bits x y z
abbrev pub six_of : List ℕ → List (List ℕ)
six_of eight =
    let at = slice_index eight in
    (at 0 ∷ at 4 ∷ at 6 ∷ at 7 ∷ [])
    ∷ (at 0 ∷ at 5 ∷ at 4 ∷ at 7 ∷ [])
    ∷ (at 0 ∷ at 6 ∷ at 2 ∷ at 7 ∷ [])
    ∷ (at 0 ∷ at 2 ∷ at 3 ∷ at 7 ∷ [])
    ∷ (at 0 ∷ at 1 ∷ at 5 ∷ at 7 ∷ [])
    ∷ (at 0 ∷ at 3 ∷ at 1 ∷ at 7 ∷ [])
    ∷ []

-- the cells between eight leaves
unfoldable pub cells_between : List Bool → List ℕ → List (List Edge)
cells_between inside eight = flat_map (cells_in inside) (six_of eight)

-- the cells in so many cubes along x from a leaf on
unfoldable pub cells_in_row : List Bool → ℕ → ℕ → ℕ → ℕ → List (List Edge)
cells_in_row inside row plane across_x first =
    flat_map (λ i. cells_between inside (eight_from (first + i) row plane))
    (range_with_len 0 across_x)

-- the cells in so many rows along y from a leaf on
unfoldable pub cells_in_layer : List Bool → ℕ → ℕ → ℕ → ℕ → ℕ → List (List Edge)
cells_in_layer inside row plane across_x across_y first =
    flat_map (λ j. cells_in_row inside row plane across_x (first + j * row))
    (range_with_len 0 across_y)

-- the cells in so many layers along z from the first leaf on
unfoldable pub cells_in_layers : List Bool → ℕ → ℕ → ℕ → ℕ → ℕ → List (List Edge)
cells_in_layers inside row plane across_x across_y across_z =
    flat_map (λ k. cells_in_layer inside row plane across_x across_y (k * plane))
    (range_with_len 0 across_z)
