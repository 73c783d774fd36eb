-- Parts that are all parts of something.
use Rattle.std.specs.Prelude.{List}
use Rattle.viz_dataset.specs.Images.{ImageData}
use Rattle.viz_parts.specs.Stitching.{ArePiecesOf, AreSlabsOf}
use Rattle.viz_parts.specs.declared.request.Part.{Part}
use Rattle.viz_sheet.specs.Sheet.{SheetData}

-- all pieces of some mesh
pub record ArePieces (parts : List Part) : Type 0 where
  pub sheets : List SheetData
  pub are : ArePiecesOf sheets parts

-- all slabs of some image
pub record AreSlabs (parts : List Part) : Type 0 where
  pub image : ImageData
  pub are : AreSlabsOf image parts
