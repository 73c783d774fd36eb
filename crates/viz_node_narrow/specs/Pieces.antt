-- Which sections of pieces have no wide number (docs/FORMATS-OF-FILTERS.md, "Exact points"; VTK
-- User's Guide, "Streaming").
use Rattle.std.specs.Prelude.{ℕ, ◌<◌, List, [], ◌∷◌, All}
use Rattle.viz_dataset.specs.Images.{ImageData, IsImage}
use Rattle.viz_fraction.specs.declared.forms.Form.{Form}
use Rattle.viz_meaning.specs.Narrow.{AreNarrowSections}
use Rattle.viz_meaning.specs.Tetrahedra.{tetrahedra_sheet}
use Rattle.viz_parts.specs.Parts.{PartSheetData}
use Rattle.viz_parts.specs.Pieces.{Division, IsBlockOf, IsPieceOf, SharesOut}
use Rattle.viz_piece_divisions.specs.Narrow.{sheets_of_parts}
use Rattle.viz_piece_divisions.specs.Pieces.{HasLevel}
use Rattle.viz_piece_tets.specs.Asked.{asked}
use Rattle.viz_sheet.specs.Sheet.{SheetData}

-- a piece of a mesh, with some ghost levels, none of whose sections has a wide number
pub record IsNarrowPiece (forms : List Form) (sheets : List SheetData) (division : Division)
    (p n : ℕ) : Type 0 where
  pub ghosts : ℕ
  pub parts : List PartSheetData
  pub is : IsPieceOf sheets (division p n) ghosts parts
  pub narrow : AreNarrowSections forms (sheets_of_parts parts)

-- where each piece is so, no section of the mesh has one
abbrev pub NarrowByPieces : Type 0
NarrowByPieces =
    (forms : List Form) (sheets : List SheetData) (division : Division) (n : ℕ) → 0 < n
    → All HasLevel sheets → SharesOut division sheets n
    → ((p : ℕ) → p < n → IsNarrowPiece forms sheets division p n)
    → AreNarrowSections forms sheets

-- no section of an image, through its tetrahedra, has a wide number
abbrev pub AreNarrowImage : List Form → ImageData → Type 0
AreNarrowImage forms image = AreNarrowSections forms (tetrahedra_sheet image ∷ [])

-- the block that a piece asks for, with some ghost levels, is so
pub record IsNarrowSlab (forms : List Form) (image : ImageData) (p n : ℕ) : Type 0 where
  pub ghosts : ℕ
  pub block : ImageData
  pub is : IsBlockOf image (asked p n ghosts image.extent) block
  pub narrow : AreNarrowImage forms block

-- where it is for each piece, the image is
abbrev pub NarrowBySlabs : Type 0
NarrowBySlabs =
    (forms : List Form) (image : ImageData) (n : ℕ) → IsImage image → 0 < n
    → ((p : ℕ) → p < n → IsNarrowSlab forms image p n) → AreNarrowImage forms image

-- where the image is, so is the block that a piece asks for
abbrev pub SlabsAreNarrow : Type 0
SlabsAreNarrow =
    (forms : List Form) (image block : ImageData) (p n ghosts : ℕ) → p < n
    → IsBlockOf image (asked p n ghosts image.extent) block
    → AreNarrowImage forms image → AreNarrowImage forms block
