-- Parts of meshes cut sheet by sheet.
use Rattle.std.specs.Prelude.{◌≡◌, ℕ, ◌<◌, Bool, List, All, length, map, replicate, slice_index_or}
use Rattle.viz_mesh_meaning.specs.Cells.{with_cells}
use Rattle.viz_parts.specs.Parts.{PartSheetData}
use Rattle.viz_parts.specs.Pieces.{IsSheetPart, own_share}
use Rattle.viz_sheet.specs.Kept.{kept}
use Rattle.viz_sheet.specs.Sheet.{SheetData, IsSheet, KeepPoints}

-- the sheet of the marked cells
pub record IsKeptSheet (s : SheetData) (keeps : List Bool) (made : SheetData) : Type 0 where
  pub whole_is : IsSheet s
  pub made_is : IsSheet made
  pub cells : made.cells ≡ kept keeps s.cells
  pub points : KeepPoints made.names made.points s.names s.points
  pub value : made ≡ with_cells s (kept keeps s.cells)

-- of the first sheets, so many, which have all cells, the piece p of n of its cells in turn
pub record ArePieces (p n ghosts count : ℕ) (parts cuts : List PartSheetData) : Type 0 where
  pub size : length cuts ≡ count
  pub each : (k : ℕ) (d : PartSheetData) → k < count
      → IsSheetPart (slice_index_or parts k d).sheet
      (own_share p n (length (slice_index_or parts k d).sheet.cells)) ghosts
      (slice_index_or cuts k d)

-- a sheet as a part, all of its cells own
abbrev pub all_own : SheetData → PartSheetData
all_own s = record { sheet = s; levels = replicate (length s.cells) 0 }

-- the only piece of each sheet by cells in turn
pub record AreWholes (sheets : List SheetData) (parts : List PartSheetData) : Type 0 where
  pub value : parts ≡ map all_own sheets
  pub parts_are : All (λ s. IsSheetPart s (own_share 0 1 (length s.cells)) 0 (all_own s)) sheets
