-- The numbers of the cells of a section, and the arrays that keep them (docs/FORMATS-OF-FILES.md,
-- "Grids and polydata").
use Rattle.std.specs.Prelude.{ℕ, List, [], ◌∷◌, length, take, drop}
use Rattle.std.specs.List.{flat_map}
use Rattle.viz_counted_cells.specs.declared.cell_numbers.CellArrays.{CellArrays}
use Rattle.viz_counted_cells.specs.declared.cell_numbers.CellArrays.TheVariants.{Mixed, Triangles}
use Rattle.viz_counted_cells.specs.declared.cell_numbers.CellArrays.TheVariants.{Tetrahedra}

-- the numbers of a cell: its count and its indices
abbrev pub cell_numbers : List ℕ → List ℕ
cell_numbers indices = length indices ∷ indices

-- the numbers of cells, one cell after the other
abbrev pub numbers_of_cells : List (List ℕ) → List ℕ
numbers_of_cells cells = flat_map cell_numbers cells

-- what contracts see of the numbers of a section
pub record Numbered : Type 0 where
  pub items : List ℕ

-- the numbers that arrays keep
abbrev pub numbers_held : CellArrays → List ℕ
numbers_held (Mixed v) = v.items
numbers_held (Triangles v) = numbers_of_cells v.items
numbers_held (Tetrahedra v) = numbers_of_cells v.items

-- the count of the first cell, which is 0 where there is none
abbrev pub first_count : List ℕ → ℕ
first_count [] = 0
first_count (c ∷ numbers) = c

-- the numbers behind the first cell
abbrev pub behind_first : List ℕ → List ℕ
behind_first [] = []
behind_first (c ∷ numbers) = drop c numbers

-- the indices of the first cell
abbrev pub first_indices : List ℕ → List ℕ
first_indices [] = []
first_indices (c ∷ numbers) = take c numbers
