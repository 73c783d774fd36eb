-- A sheet of other cells at the same points, as a filter leaves or makes them (VTK User's Guide:
-- vtkThreshold, vtkGeometryFilter).
use Rattle.std.specs.Prelude.{ℕ, List, map}
use Rattle.viz_sheet.specs.Sheet.{SheetData}
use Rattle.viz_meaning.specs.Names.{names_of}
use Rattle.viz_meaning.specs.Section.{point_of}

-- a cell by the names of its points
abbrev pub Cell : Type 0
Cell = List (List ℕ)

-- the sheet of some cells of names of a sheet: their names ascending, each once, with the points
-- that these have in the sheet
abbrev pub with_cells : SheetData → List Cell → SheetData
with_cells s cells = record {
  names = names_of cells;
  points = map (point_of s) (names_of cells);
  cells = cells;
}
