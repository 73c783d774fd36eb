-- Pieces, number of pieces and ghost levels, by which a consumer asks for a part (VTK User's
-- Guide, "Streaming").
use Rattle.std.specs.Prelude.{◌≡◌, ℕ, List, length, replicate}
use Rattle.viz_sheet.specs.Sheet.{SheetData}
use Rattle.viz_parts.specs.declared.levels.Levels.{Levels}
use Rattle.viz_parts.specs.declared.levels.Levels.TheVariants.{Own, Each}

-- what is seen of a part of a mesh: a sheet, and the ghost level of each of its cells, 0 for the
-- piece's own ones
pub record PartSheetData : Type 0 where
  pub sheet : SheetData
  pub levels : List ℕ

-- a level for each cell
pub record HasLevels (part : PartSheetData) : Type 0 where
  pub matched : length part.levels ≡ length part.sheet.cells

-- how levels are kept: all 0, or each
abbrev pub levels_in : ℕ → Levels → List ℕ
levels_in count Own = replicate count 0
levels_in count (Each v) = v.items
