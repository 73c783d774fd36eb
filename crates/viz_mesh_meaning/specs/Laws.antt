-- Laws of filters of meshes: what they give is a sheet, each of its cells comes from one cell, and
-- its points stay.
use Rattle.std.specs.Prelude.{◌≡◌, ◌↔◌, ◌+◌, ℤ, Bool, true, List, length, All, Contains}
use Rattle.std.specs.List.{flat_map}
use Rattle.viz_fraction.specs.Points.{Point}
use Rattle.viz_fraction.specs.Places.{IsWithin}
use Rattle.viz_sheet.specs.Sheet.{SheetData, IsNamedCell, IsSheet, KeepPoints}
use Rattle.viz_mesh_meaning.specs.Cells.{Cell, with_cells}
use Rattle.viz_mesh_meaning.specs.Facets.{boundary_of, is_same_name, lone_facets}
use Rattle.viz_mesh_meaning.specs.Merge.{merged}
use Rattle.viz_mesh_meaning.specs.Select.{has_scalar_within, if_selected, selected}

-- a sheet whose points are those of another is made of its own cells at the points of the other
abbrev pub KeptPointsMakeCells : Type 0
KeptPointsMakeCells =
    (s t : SheetData) → IsSheet s → IsSheet t → KeepPoints t.names t.points s.names s.points
    → t ≡ with_cells s t.cells

-- the cells have names of a sheet alone
abbrev pub AreOfNames : SheetData → List Cell → Type 0
AreOfNames s cells = All (All (Contains s.names)) cells

-- cells of names of a sheet are a sheet, with the points that the names had
pub record IsMadeOf (s t : SheetData) : Type 0 where
  pub sheet : IsSheet t
  pub points : KeepPoints t.names t.points s.names s.points

abbrev pub CellsMakeSheet : Type 0
CellsMakeSheet =
    (s : SheetData) (cells : List Cell) → IsSheet s → All IsNamedCell cells → AreOfNames s cells
    → IsMadeOf s (with_cells s cells)

-- a selection has each selected cell once, and no other
abbrev pub SelectionIsCellByCell : Type 0
SelectionIsCellByCell =
    (all : Bool) (lo hi : ℤ) (s : SheetData) → (selected all lo hi s).cells
    ≡ flat_map (if_selected all lo hi s) s.cells

-- a selection of a sheet is a sheet, with the points that it had
abbrev pub SelectionIsSheet : Type 0
SelectionIsSheet = (all : Bool) (lo hi : ℤ) (s : SheetData) → IsSheet s
    → IsMadeOf s (selected all lo hi s)

-- the test of a scalar is what it says of the fraction
abbrev pub ScalarTestIsWithin : Type 0
ScalarTestIsWithin = (lo hi : ℤ) (p : Point) → (has_scalar_within lo hi p ≡ true) ↔ IsWithin p lo hi

-- a facet has one name fewer than its cell, and each of them is one of the cell's
pub record IsFacetOf (cell facet : Cell) : Type 0 where
  pub fewer : length facet + 1 ≡ length cell
  pub names : All (Contains cell) facet

-- the boundary of a sheet is a sheet, with the points that it had
abbrev pub BoundaryIsSheet : Type 0
BoundaryIsSheet = (s : SheetData) → IsSheet s → IsMadeOf s (boundary_of s)

-- what a cell gives to the boundary are facets of it
abbrev pub BoundaryHasFacets : Type 0
BoundaryHasFacets =
    (cells : List Cell) (cell : Cell) → IsNamedCell cell
    → All (IsFacetOf cell) (lone_facets is_same_name cells cell)

-- a merge of sheets is a sheet
abbrev pub MergeIsSheet : Type 0
MergeIsSheet = (sheets : List SheetData) → All IsSheet sheets → IsSheet (merged sheets)
