-- A section of a sheet is a sheet again, and wide just where it is in some cell
-- (docs/FORMATS-OF-FILTERS.md, "Exact points").
use Rattle.std.specs.Prelude.{◌↔◌, ℕ, ◌+◌, All}
use Rattle.viz_fraction.specs.declared.forms.Form.{Form}
use Rattle.viz_sheet.specs.PairNames.{AreNames}
use Rattle.viz_sheet.specs.Sheet.{SheetData, IsFit, IsSheet}
use Rattle.viz_meaning.specs.Narrow.{IsNarrowCell, IsNarrowSection}
use Rattle.viz_meaning.specs.Section.{section_of}

-- the section of a sheet of names of one level is a sheet
abbrev pub SectionIsSheet : Type 0
SectionIsSheet = (f : Form) (s : SheetData) (size : ℕ) → IsSheet s → AreNames size s.names
    → IsSheet (section_of f s)

-- its names have twice as many leaves
abbrev pub SectionHasNextNames : Type 0
SectionHasNextNames =
    (f : Form) (s : SheetData) (size : ℕ) → IsSheet s → AreNames size s.names
    → AreNames (size + size) (section_of f s).names

-- it fits if the sheet does
abbrev pub SectionFits : Type 0
SectionFits = (f : Form) (s : SheetData) (size : ℕ) → IsSheet s → AreNames size s.names → IsFit s
    → IsFit (section_of f s)

-- no number of it is wide just where none is in any cell
abbrev pub NarrowCellByCell : Type 0
NarrowCellByCell =
    (f : Form) (s : SheetData) (size : ℕ) → IsSheet s → AreNames size s.names
    → IsNarrowSection f s ↔ All (IsNarrowCell f s) s.cells
