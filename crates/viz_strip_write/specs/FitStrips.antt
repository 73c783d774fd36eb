-- What a mesh that is written with strips may hold (docs/FORMATS-OF-OUTPUT.md, "Written strips").
use Rattle.std.specs.Prelude.{◌≡◌, ℕ, ◌*◌, ◌^◌, ◌<◌, List, length}
use Rattle.viz_sheet.specs.Sheet.{SheetData}
use Rattle.viz_mesh_write.specs.Cells.{points_of, cells_of, of_size}
use Rattle.viz_mesh_write.specs.MeshText.{size_of}
use Rattle.viz_strip.specs.Strips.{AreStrips}

-- so many points, and the numbers of each section of the cells, are at most 2^31 - 1
pub record FitCounts (points : ℕ) (cells : List (List ℕ)) : Type 0 where
  pub few : points < 2 ^ 31
  pub vertices : size_of (of_size 1 cells) < 2 ^ 31
  pub lines : size_of (of_size 2 cells) < 2 ^ 31
  pub strips : (strips : List (List ℕ)) → AreStrips (of_size 3 cells) strips
      → size_of strips < 2 ^ 31

-- those of a mesh
abbrev pub FitStrips : List SheetData → Type 0
FitStrips sheets = FitCounts (length (points_of sheets)) (cells_of sheets)

-- the points, and the numbers of vertices and of lines, are at most 2^31 - 1
pub record FitCells (points : ℕ) (cells : List (List ℕ)) : Type 0 where
  pub points_few : points < 2 ^ 31
  pub vertices : size_of (of_size 1 cells) < 2 ^ 31
  pub lines : size_of (of_size 2 cells) < 2 ^ 31

-- how many vertices and lines there are, whose numbers are at most 2^31 - 1
pub record AreFew (cells : List (List ℕ)) (vertices lines : ℕ) : Type 0 where
  pub vertices_are : vertices ≡ length (of_size 1 cells)
  pub lines_are : lines ≡ length (of_size 2 cells)
  pub few_vertices : 2 * vertices < 2 ^ 31
  pub few_lines : 3 * lines < 2 ^ 31
