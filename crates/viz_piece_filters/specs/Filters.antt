-- The filters of meshes on parts.
use Rattle.std.specs.Prelude.{ℕ, ◌+◌, ◌≤◌, nat_le, ℤ, Bool, List, map}
use Rattle.std.specs.List.{flat_map}
use Rattle.viz_fraction.specs.declared.forms.Form.{Form}
use Rattle.viz_meaning.specs.Section.{cells_in, is_inside_at, point_of, section_of}
use Rattle.viz_mesh_meaning.specs.Cells.{with_cells}
use Rattle.viz_mesh_meaning.specs.Facets.{boundary_of, is_same_name, lone_facets}
use Rattle.viz_mesh_meaning.specs.Select.{is_selected, selected}
use Rattle.viz_parts.specs.Parts.{PartSheetData}
use Rattle.viz_sheet.specs.Kept.{kept}
use Rattle.viz_sheet.specs.PairNames.{AreNames}
use Rattle.viz_sheet.specs.Sheet.{SheetData, IsSheet}
use Rattle.viz_parts.specs.Pieces.{IsPartOf}
use Rattle.viz_piece_filters.specs.HandedOn.{counts, handed_on}

-- the items, as levels or marks, of the selected cells of a sheet
abbrev pub kept_selected : {A : Type 0} → Bool → ℤ → ℤ → SheetData → List A → List A
kept_selected all lo hi s items = kept (map (is_selected all lo hi s) s.cells) items

-- the selection of a part: of its sheet, with the levels of the cells that are kept
abbrev pub selected_part : Bool → ℤ → ℤ → PartSheetData → PartSheetData
selected_part all lo hi part = record {
  sheet = selected all lo hi part.sheet;
  levels = kept_selected all lo hi part.sheet part.levels;
}

-- is a part of the selection of the whole
abbrev pub SelectionsKeepParts : Type 0
SelectionsKeepParts =
    (all : Bool) (lo hi : ℤ) (whole : SheetData) (own : List Bool) (ghosts : ℕ)
    (part : PartSheetData)
    → IsSheet whole → IsSheet part.sheet → IsPartOf whole own ghosts part
    → IsPartOf (selected all lo hi whole) (kept_selected all lo hi whole own) ghosts
    (selected_part all lo hi part)

-- an item for each cell of a section: that of the cell that it is in
abbrev pub handed_section : {A : Type 0} → Form → SheetData → List A → List A
handed_section f s items =
    handed_on items (counts (cells_in (λ n. is_inside_at f (point_of s n))) s.cells)

-- the section of a part: of its sheet, each cell with the level of the cell that it is in
abbrev pub section_part : Form → PartSheetData → PartSheetData
section_part f part = record {
  sheet = section_of f part.sheet;
  levels = handed_section f part.sheet part.levels;
}

-- is a part of the section of the whole
abbrev pub SectionsKeepParts : Type 0
SectionsKeepParts =
    (f : Form) (size : ℕ) (whole : SheetData) (own : List Bool) (ghosts : ℕ) (part : PartSheetData)
    → IsSheet whole → AreNames size whole.names → IsSheet part.sheet
    → IsPartOf whole own ghosts part
    → IsPartOf (section_of f whole) (handed_section f whole own) ghosts (section_part f part)

-- the items of cells whose level is at most so much
abbrev pub near_items : {A : Type 0} → ℕ → List ℕ → List A → List A
near_items ghosts levels items = kept (map (λ l. nat_le l ghosts) levels) items

-- a part with fewer levels: its cells of these
abbrev pub trimmed_part : ℕ → PartSheetData → PartSheetData
trimmed_part ghosts part = record {
  sheet = with_cells part.sheet (near_items ghosts part.levels part.sheet.cells);
  levels = near_items ghosts part.levels part.levels;
}

-- is a part with so many
abbrev pub TrimmedKeepParts : Type 0
TrimmedKeepParts =
    (more : ℕ) (whole : SheetData) (own : List Bool) (ghosts : ℕ) (part : PartSheetData)
    → ghosts ≤ more → IsSheet part.sheet → IsPartOf whole own more part
    → IsPartOf whole own ghosts (trimmed_part ghosts part)

-- an item for each cell of a boundary: that of the cell that it is a facet of
abbrev pub handed_boundary : {A : Type 0} → SheetData → List A → List A
handed_boundary s items = handed_on items (counts (lone_facets is_same_name s.cells) s.cells)

-- the boundary of a part: the facets of its cells up to a level that occur once among all its
-- cells, each with the level of its cell
abbrev pub boundary_part : ℕ → PartSheetData → PartSheetData
boundary_part ghosts part = record {
  sheet = with_cells part.sheet
      (flat_map (lone_facets is_same_name part.sheet.cells)
      (near_items ghosts part.levels part.sheet.cells));
  levels = handed_on (near_items ghosts part.levels part.levels)
      (counts (lone_facets is_same_name part.sheet.cells)
      (near_items ghosts part.levels part.sheet.cells));
}

-- of a part with one level more, is a part of the boundary of the whole
abbrev pub BoundariesKeepParts : Type 0
BoundariesKeepParts =
    (whole : SheetData) (own : List Bool) (ghosts : ℕ) (part : PartSheetData)
    → IsSheet whole → IsSheet part.sheet → IsPartOf whole own (ghosts + 1) part
    → IsPartOf (boundary_of whole) (handed_boundary whole own) ghosts (boundary_part ghosts part)
