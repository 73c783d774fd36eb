-- What a written mesh may hold (docs/FORMATS-OF-OUTPUT.md, "Written meshes").
use Rattle.std.specs.Prelude.{ℕ, ◌^◌, ◌<◌, ℤ, List, [], ◌∷◌, length, All, FitsSigned, if◌then◌else◌}
use Rattle.std.specs.Int.{w64}
use Rattle.viz_fraction.specs.Points.{Point}
use Rattle.viz_sheet.specs.Sheet.{SheetData}
use Rattle.viz_mesh_write.specs.Cells.{points_of, cells_of, of_size, has_tetrahedra}
use Rattle.viz_mesh_write.specs.MeshText.{coordinates, scalars, size_of}

-- the cells of each section that a text of these cells may have
abbrev pub sections_of : List (List ℕ) → List (List (List ℕ))
sections_of cells =
    if has_tetrahedra cells then cells ∷ []
    else of_size 1 cells ∷ of_size 2 cells ∷ of_size 3 cells ∷ []

-- the points, and the numbers of each section, are at most 2^31 - 1
pub record FitCounts (sheets : List SheetData) : Type 0 where
  pub points : length (points_of sheets) < 2 ^ 31
  pub sizes : All (λ cells. size_of cells < 2 ^ 31) (sections_of (cells_of sheets))

-- the numbers of a row fit signed 64 bits
pub record FitsRow (row : List ℤ) : Type 0 where
  pub each : All (λ n. FitsSigned w64 n) row

-- the written numbers of each point fit signed 64 bits
pub record FitRows (numbers : Point → List ℤ) (points : List Point) : Type 0 where
  pub each : All (λ p. FitsRow (numbers p)) points

-- all written coordinates and scalars fit signed 64 bits
pub record FitNumbers (digits : ℕ) (sheets : List SheetData) : Type 0 where
  pub coordinates : FitRows (coordinates digits) (points_of sheets)
  pub scalars : FitRows scalars (points_of sheets)
