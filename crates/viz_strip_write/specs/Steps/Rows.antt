-- Rows of cells, one behind the other.
use Rattle.std.specs.Prelude.{ℕ, List, ◌∷◌}
use Rattle.std.specs.List.{flat_map}
use Rattle.std.specs.Fmt.{decimal}
use Rattle.viz_image_write.specs.ImageText.{row_text}
use Rattle.viz_mesh_write.specs.MeshText.{cell_numbers}

-- an index behind a space
abbrev pub spaced : ℕ → List ℕ
spaced n = 32 ∷ decimal n

-- the line of a cell
abbrev pub row_of : List ℕ → List ℕ
row_of cell = row_text (cell_numbers cell)

-- the lines of cells
abbrev pub rows_of : List (List ℕ) → List ℕ
rows_of cells = flat_map row_of cells
