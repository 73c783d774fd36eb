-- When a division gives each piece marks of all cells of a mesh (VTK User's Guide, "Streaming").
use Rattle.std.specs.Prelude.{◌≡◌, ℕ, ◌<◌, Bool, true, List, [], length, replicate, slice_index_or}
use Rattle.viz_parts.specs.Pieces.{Division}
use Rattle.viz_sheet.specs.Sheet.{SheetData}

-- for each piece of so many, and each sheet, it says of each cell whether the piece owns it
pub record MarksCells (division : Division) (sheets : List SheetData) (n : ℕ) : Type 0 where
  pub each : (p k : ℕ) (s : SheetData) → p < n → k < length sheets
      → length (slice_index_or (division p n) k []) ≡ length (slice_index_or sheets k s).cells

-- marks of a sheet's cells, of which all are own
abbrev pub all_own : SheetData → List Bool
all_own sheet = replicate (length sheet.cells) true
