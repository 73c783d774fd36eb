-- The points and cells of a mesh, as a file numbers them (VTK User's Guide, "Simple legacy
-- formats"; docs/FORMATS-OF-OUTPUT.md, "Written meshes").
use Rattle.std.specs.Prelude.{ℕ, ◌+◌, ◌==◌, Bool, List, [], ◌∷◌, ◌++◌, length, map}
use Rattle.std.specs.List.{flat_map, filter, list_any}
use Rattle.viz_fraction.specs.Points.{Point}
use Rattle.viz_sheet.specs.Sheet.{SheetData}
use Rattle.viz_sheet.specs.Ranked.{ranks_of}

-- the points of all sheets, by sheet and then by name
abbrev pub points_of : List SheetData → List Point
points_of sheets = flat_map (λ s. s.points) sheets

-- a cell by indices: the ranks of its points, with so many points in front of those of its sheet
abbrev pub moved : ℕ → List ℕ → List ℕ
moved first ranks = map (λ r. first + r) ranks

-- the cells of a sheet by indices, with so many points in front of its own
abbrev pub indices_in : ℕ → SheetData → List (List ℕ)
indices_in first s = map (λ cell. moved first (ranks_of s.names cell)) s.cells

-- the cells of sheets by indices, with so many points in front of theirs
abbrev pub cells_from : ℕ → List SheetData → List (List ℕ)
cells_from first [] = []
cells_from first (s ∷ sheets) = indices_in first s ++ cells_from (first + length s.points) sheets

-- the cells of all sheets, by the indices of their points
abbrev pub cells_of : List SheetData → List (List ℕ)
cells_of sheets = cells_from 0 sheets

-- the cells of so many points
abbrev pub of_size : ℕ → List (List ℕ) → List (List ℕ)
of_size n cells = filter (λ cell. length cell == n) cells

-- whether a cell of four points is there
abbrev pub has_tetrahedra : List (List ℕ) → Bool
has_tetrahedra cells = list_any (λ cell. length cell == 4) cells
