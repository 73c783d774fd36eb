-- The section of a sheet whose leaves have other numbers in the same order
-- (docs/FORMATS-OF-FILTERS.md, "Names of a section").
use Rattle.std.specs.Prelude.{◌≡◌, ℕ, List}
use Rattle.viz_fraction.specs.declared.forms.Form.{Form}
use Rattle.viz_meaning.specs.Section.{section_of}
use Rattle.viz_piece_filters.specs.Filters.{handed_section}
use Rattle.viz_piece_layers.specs.Sheets.{shifted_sheet}
use Rattle.viz_sheet.specs.Sheet.{SheetData}

-- is the section, with the same numbers in place of its leaves
abbrev pub SectionsShift : Type 0
SectionsShift =
    (by : ℕ) (f : Form) (s : SheetData)
    → section_of f (shifted_sheet by s) ≡ shifted_sheet by (section_of f s)

-- and hands on the same to its cells
abbrev pub SectionsHandOnShifted : Type 0
SectionsHandOnShifted =
    (by : ℕ) (f : Form) (s : SheetData) (levels : List ℕ)
    → handed_section f (shifted_sheet by s) levels ≡ handed_section f s levels
