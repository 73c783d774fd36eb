-- Filters one after the other: what each of them asks for is kept.
use Rattle.std.specs.Prelude.{◌≡◌, ℕ, ◌+◌, ◌≤◌, ℤ, Bool, List}
use Rattle.viz_fraction.specs.declared.forms.Form.{Form}
use Rattle.viz_meaning.specs.Section.{section_of}
use Rattle.viz_mesh_meaning.specs.Facets.{boundary_of}
use Rattle.viz_mesh_meaning.specs.Select.{if_selected, selected}
use Rattle.viz_parts.specs.Parts.{PartSheetData, HasLevels}
use Rattle.viz_sheet.specs.PairNames.{AreNames}
use Rattle.viz_sheet.specs.Sheet.{SheetData}
use Rattle.viz_parts.specs.Pieces.{IsPartOf, IsSheetPart}
use Rattle.viz_piece_filters.specs.HandedOn.{counts, handed_on}
use Rattle.viz_piece_filters.specs.Filters.{boundary_part, section_part, selected_part}
use Rattle.viz_piece_filters.specs.Filters.{handed_boundary, handed_section}
use Rattle.viz_piece_filters.specs.Filters.{kept_selected, trimmed_part}

abbrev pub SelectionsChain : Type 0
SelectionsChain =
    (all : Bool) (lo hi : ℤ) (whole : SheetData) (own : List Bool) (ghosts : ℕ)
    (part : PartSheetData)
    → IsSheetPart whole own ghosts part
    → IsSheetPart (selected all lo hi whole) (kept_selected all lo hi whole own) ghosts
    (selected_part all lo hi part)

abbrev pub BoundariesChain : Type 0
BoundariesChain =
    (whole : SheetData) (own : List Bool) (ghosts : ℕ) (part : PartSheetData)
    → IsSheetPart whole own (ghosts + 1) part
    → IsSheetPart (boundary_of whole) (handed_boundary whole own) ghosts (boundary_part ghosts part)

abbrev pub TrimmedChain : Type 0
TrimmedChain =
    (more : ℕ) (whole : SheetData) (own : List Bool) (ghosts : ℕ) (part : PartSheetData)
    → ghosts ≤ more → IsSheetPart whole own more part
    → IsSheetPart whole own ghosts (trimmed_part ghosts part)

-- names of one level are asked for, and those of the section are of the next
pub record IsSectionPart (size : ℕ) (whole : SheetData) (own : List Bool) (ghosts : ℕ)
    (part : PartSheetData) : Type 0 where
  pub part_is : IsSheetPart whole own ghosts part
  pub names_are : AreNames (size + size) whole.names

abbrev pub SectionsChain : Type 0
SectionsChain =
    (f : Form) (size : ℕ) (whole : SheetData) (own : List Bool) (ghosts : ℕ) (part : PartSheetData)
    → AreNames size whole.names → IsSheetPart whole own ghosts part
    → IsSectionPart size (section_of f whole) (handed_section f whole own) ghosts
    (section_part f part)

-- own positions in a selection are handed_on as those of any filter
abbrev pub SelectionsHandOn : Type 0
SelectionsHandOn =
    (all : Bool) (lo hi : ℤ) (s : SheetData) (own : List Bool)
    → kept_selected all lo hi s own ≡ handed_on own (counts (if_selected all lo hi s) s.cells)

-- a part has a level for each cell
abbrev pub PartsHaveLevels : Type 0
PartsHaveLevels =
    (whole : SheetData) (own : List Bool) (ghosts : ℕ) (part : PartSheetData)
    → IsPartOf whole own ghosts part → HasLevels part
