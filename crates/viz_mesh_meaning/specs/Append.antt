-- Joined meshes: the sheets of all, one mesh after the other (VTK User's Guide: vtkAppendFilter).
use Rattle.std.specs.Prelude.{List}
use Rattle.std.specs.List.{flat_map}
use Rattle.viz_sheet.specs.Sheet.{SheetData}

-- the sheets of all meshes, in the order of the meshes
abbrev pub appended : List (List SheetData) → List SheetData
appended meshes = flat_map (λ mesh. mesh) meshes
