-- The pieces of the cells of a grid: each cell is one, unless it repeats an index (VTK User's
-- Guide, "Simple legacy formats"; docs/FORMATS-OF-FILES.md, "Grids and polydata").
use Rattle.std.specs.Prelude.{ℕ, Bool, true, false, not, ◌&&◌, ◌||◌, ◌==◌, List, [], ◌∷◌}
use Rattle.std.specs.List.{flat_map}
use Rattle.viz_mesh_read.specs.Pieces.{kept, in_cells}

-- the index is one of these
abbrev pub is_among : ℕ → List ℕ → Bool
is_among i [] = false
is_among i (j ∷ js) = i == j || is_among i js

-- no index is repeated
abbrev pub repeats_none : List ℕ → Bool
repeats_none [] = true
repeats_none (i ∷ is) = not (is_among i is) && repeats_none is

-- a cell, where it repeats no index
abbrev pub grid_piece : List ℕ → List (List ℕ)
grid_piece cell = kept (repeats_none cell) cell

-- the pieces of all cells, in their order
abbrev pub grid_pieces : List (List ℕ) → List (List ℕ)
grid_pieces cells = flat_map grid_piece cells

-- the pieces of so many cells, whose numbers are these
abbrev pub grid_pieces_in : ℕ × List ℕ → List (List ℕ)
grid_pieces_in section = in_cells grid_piece section.0 section.1
