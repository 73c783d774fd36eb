-- Sheets whose cells are all their own.
use Rattle.std.specs.Prelude.{List, length, replicate}
use Rattle.std.specs.List.{All}
use Rattle.viz_parts.specs.Parts.{PartSheetData}
use Rattle.viz_sheet.specs.Sheet.{SheetData, IsSheet}

-- a sheet as a part of own cells alone
abbrev pub own_part : SheetData → PartSheetData
own_part sheet = record { sheet = sheet; levels = replicate (length sheet.cells) 0 }

-- each is a sheet
pub record AreSheets (sheets : List SheetData) : Type 0 where
  pub each : All IsSheet sheets
