-- What one pass over the sheets writes.
use Rattle.std.specs.Prelude.{ℕ, ◌+◌, ◌^◌, ◌<◌, ◌==◌, ◌≤◌, ℤ, pos, Bool, List, [], ◌∷◌, ◌++◌}
use Rattle.std.specs.Prelude.{length, All, Option, Some, None, true, false, if◌then◌else◌}
use Rattle.std.specs.List.{flat_map}
use Rattle.std.specs.Fmt.{decimal}
use Rattle.viz_fraction.specs.Points.{Point}
use Rattle.viz_column.specs.declared.kind.Kind8.{Kind8}
use Rattle.viz_column.specs.declared.kind.Kind8.TheVariants.{I32, I64}
use Rattle.viz_column.specs.Bytes.{bytes_of}
use Rattle.viz_mesh_write.specs.Cells.{moved, of_size}
use Rattle.viz_mesh_write.specs.Rows.{row_of}
use Rattle.viz_mesh_write.specs.Fits.{FitsRow}
use Rattle.viz_mesh_write.specs.Sections.{cell_numbers, indices_of}
use Rattle.viz_mesh_write.specs.MeshText.{type_of}
use Rattle.viz_mesh_write.specs.Steps.SheetCells.{CellsData}

-- the written numbers of points, a row for each
abbrev pub point_rows : (Point → List ℤ) → Bool → List Point → List ℕ
point_rows numbers binary points = flat_map (λ p. row_of binary I64 (numbers p)) points

-- the same of what is seen as points
abbrev pub rows_by : {X : Type 0} → (X → Point) → (Point → List ℤ) → Bool → List X → List ℕ
rows_by point numbers binary items = flat_map (λ x. row_of binary I64 (numbers (point x))) items

-- the written numbers of each of them fit signed 64 bits
abbrev pub FitBy : {X : Type 0} → (X → Point) → (Point → List ℤ) → List X → Type 0
FitBy point numbers items = All (λ x. FitsRow (numbers (point x))) items

-- a cell by ranks can be written with so many points in front
pub record IsMovable (first : ℕ) (cell : List ℕ) : Type 0 where
  pub most : length cell ≤ 4
  pub below : All (λ r. first + r < 2 ^ 31) cell

-- an index in words, behind a space
abbrev pub index_text : ℕ → ℕ → List ℕ
index_text first r = 32 ∷ decimal (first + r)

-- the bytes of an index
abbrev pub index_bytes : ℕ → ℕ → List ℕ
index_bytes first r = bytes_of I32 (pos (first + r))

-- the bytes of an index of a file of version 5.1
abbrev pub long_bytes : ℕ → ℕ → List ℕ
long_bytes first r = bytes_of I64 (pos (first + r))

-- the type of the numbers of a section, by whether its file is of version 5.1
abbrev pub kind_of : Bool → Kind8
kind_of true = I64
kind_of false = I32

-- the numbers of a cell in a section, by the same
abbrev pub numbers_of : Bool → List ℕ → List ℤ
numbers_of true = indices_of
numbers_of false = cell_numbers

-- the row of a cell by ranks, with so many points in front
abbrev pub cell_row : Bool → Bool → ℕ → List ℕ → List ℕ
cell_row later binary first cell =
    row_of binary (kind_of later) (numbers_of later (moved first cell))

-- whether a cell has so many points, where they are given
abbrev pub is_kept : Option ℕ → List ℕ → Bool
is_kept None cell = true
is_kept (Some n) cell = length cell == n

-- the cells of so many points, where they are given, and else all
abbrev pub kept : Option ℕ → List (List ℕ) → List (List ℕ)
kept None cells = cells
kept (Some n) cells = of_size n cells

-- the row of a cell that is kept
abbrev pub kept_row : Option ℕ → Bool → Bool → ℕ → List ℕ → List ℕ
kept_row size later binary first cell =
    if is_kept size cell then cell_row later binary first cell else []

-- the row of the type of a cell
abbrev pub type_row : Bool → ℕ → List ℕ → List ℕ
type_row binary first cell = row_of binary I32 (type_of (length cell) ∷ [])

-- the rows of the cells of sheets, with so many points in front
abbrev pub cell_rows : (ℕ → List ℕ → List ℕ) → ℕ → List CellsData → List ℕ
cell_rows row first [] = []
cell_rows row first (s ∷ sheets) = flat_map (row first) s.cells
    ++ cell_rows row (first + s.points) sheets
