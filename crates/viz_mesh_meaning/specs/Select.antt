-- Selection: the cells all or any of whose corners have a scalar within bounds (VTK User's Guide:
-- vtkThreshold, AllScalars).
use Rattle.std.specs.Prelude.{ℤ, ◌*ℤ◌, int_le, Bool, ◌&&◌, List, [], ◌∷◌, map, if◌then◌else◌}
use Rattle.std.specs.List.{filter, list_all, list_any}
use Rattle.viz_fraction.specs.Points.{Point}
use Rattle.viz_sheet.specs.Sheet.{SheetData}
use Rattle.viz_meaning.specs.Section.{point_of}
use Rattle.viz_mesh_meaning.specs.Cells.{Cell, with_cells}

-- the scalar s / w of a point lies from lo to hi, both of which belong to the range
abbrev pub has_scalar_within : ℤ → ℤ → Point → Bool
has_scalar_within lo hi p = int_le (lo *ℤ p.w) p.s && int_le p.s (hi *ℤ p.w)

-- a test holds of all items, or of any
abbrev pub holds_of : {X : Type 0} → Bool → (X → Bool) → List X → Bool
holds_of all test xs = if all then list_all test xs else list_any test xs

-- all or any corners of a cell have a scalar within the bounds
abbrev pub is_selected : Bool → ℤ → ℤ → SheetData → Cell → Bool
is_selected all lo hi s cell = holds_of all (λ n. has_scalar_within lo hi (point_of s n)) cell

-- the selection of a sheet: the selected cells, in their order
abbrev pub selected : Bool → ℤ → ℤ → SheetData → SheetData
selected all lo hi s = with_cells s (filter (is_selected all lo hi s) s.cells)

-- the selections of sheets, one for each
abbrev pub selections : Bool → ℤ → ℤ → List SheetData → List SheetData
selections all lo hi sheets = map (selected all lo hi) sheets

-- the cell where it is selected, and nothing else
abbrev pub if_selected : Bool → ℤ → ℤ → SheetData → Cell → List Cell
if_selected all lo hi s cell = if is_selected all lo hi s cell then cell ∷ [] else []
