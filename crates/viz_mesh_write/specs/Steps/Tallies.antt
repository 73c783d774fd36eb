-- Counts of points and cells.
use Rattle.std.specs.Prelude.{◌≡◌, ℕ, ◌+◌, ◌-◌, ◌*◌, ◌^◌, ◌<◌, ◌≤◌, List, All, length, min}
use Rattle.viz_sheet.specs.Sheet.{SheetData, IsSheet}
use Rattle.viz_mesh_write.specs.declared.tally.Tally.{Tally}
use Rattle.viz_mesh_write.specs.Fits.{FitCounts}
use Rattle.viz_mesh_write.specs.Cells.{points_of, cells_of, of_size}

-- a count, or the greatest number of 64 bits where that is less
abbrev pub capped : ℕ → ℕ
capped n = min n (2 ^ 64 - 1)

-- the counts of points, and of cells of each size
pub record IsTally (sheets : List SheetData) (t : Tally) : Type 0 where
  pub points : t.points ≡ length (points_of sheets)
  pub vertices : t.vertices ≡ length (of_size 1 (cells_of sheets))
  pub lines : t.lines ≡ length (of_size 2 (cells_of sheets))
  pub triangles : t.triangles ≡ length (of_size 3 (cells_of sheets))
  pub tetrahedra : t.tetrahedra ≡ length (of_size 4 (cells_of sheets))

-- the same counts, capped
pub record IsCapped (sheets : List SheetData) (t : Tally) : Type 0 where
  pub points : t.points ≡ capped (length (points_of sheets))
  pub vertices : t.vertices ≡ capped (length (of_size 1 (cells_of sheets)))
  pub lines : t.lines ≡ capped (length (of_size 2 (cells_of sheets)))
  pub triangles : t.triangles ≡ capped (length (of_size 3 (cells_of sheets)))
  pub tetrahedra : t.tetrahedra ≡ capped (length (of_size 4 (cells_of sheets)))

-- each count is at most 2^31 - 1
pub record AreSmall (t : Tally) : Type 0 where
  pub points : t.points < 2 ^ 31
  pub vertices : t.vertices < 2 ^ 31
  pub lines : t.lines < 2 ^ 31
  pub triangles : t.triangles < 2 ^ 31
  pub tetrahedra : t.tetrahedra < 2 ^ 31

-- how many cells
abbrev pub cell_count : Tally → ℕ
cell_count t = t.vertices + t.lines + t.triangles + t.tetrahedra

-- how many numbers all cells have
abbrev pub size_count : Tally → ℕ
size_count t = 2 * t.vertices + 3 * t.lines + 4 * t.triangles + 5 * t.tetrahedra

-- the numbers of each section are at most 2^31 - 1
abbrev pub SectionsFit : Tally → Type 0
SectionsFit t = (0 < t.tetrahedra → size_count t < 2 ^ 31)
    × (t.tetrahedra ≡ 0 → (2 * t.vertices < 2 ^ 31) × (3 * t.lines < 2 ^ 31)
    × (4 * t.triangles < 2 ^ 31))

-- a cell of 1 to 4 points
pub record IsSized (cell : List ℕ) : Type 0 where
  pub some : 1 ≤ length cell
  pub most : length cell ≤ 4

-- sheets that may be written, and their counts
pub record IsReady (sheets : List SheetData) (t : Tally) : Type 0 where
  pub known : All IsSheet sheets
  pub counts : IsTally sheets t
  pub small : AreSmall t
  pub sections : SectionsFit t
  pub fits : FitCounts sheets

-- cells by indices that may be written, and how many there are of each size
pub record AreCounted (cells : List (List ℕ)) (t : Tally) : Type 0 where
  pub sized : All IsSized cells
  pub vertices : t.vertices ≡ length (of_size 1 cells)
  pub lines : t.lines ≡ length (of_size 2 cells)
  pub triangles : t.triangles ≡ length (of_size 3 cells)
  pub tetrahedra : t.tetrahedra ≡ length (of_size 4 cells)
  pub small : AreSmall t
  pub sections : SectionsFit t
