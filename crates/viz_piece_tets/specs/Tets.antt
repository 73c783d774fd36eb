-- The tetrahedra of an image in pieces: each piece owns those of its own layers of cubes (VTK
-- User's Guide, "Streaming").
use Rattle.std.specs.Prelude.{◌≡◌, ℕ, ◌<◌, [], ◌∷◌}
use Rattle.viz_dataset.specs.Images.{ImageData, IsImage}
use Rattle.viz_dataset.specs.declared.dataset.Dataset.TheVariants as dataset
use Rattle.viz_extent.specs.Extent.{Bounds}
use Rattle.viz_meaning.specs.Tetrahedra.{tetrahedra_sheet}
use Rattle.viz_parts.specs.Parts.{PartSheetData}
use Rattle.viz_parts.specs.Pieces.{Division, IsAnswer, IsBlockOf, IsSheetPart, SharesOut}
use Rattle.viz_parts.specs.declared.request.Part.{Part}
use Rattle.viz_parts.specs.declared.request.Request.TheVariants.{Piece}
use Rattle.viz_piece_layers.specs.Pieces.{leaf_shift, own_tets}
use Rattle.viz_piece_layers.specs.Sheets.{shifted_sheet}
use Rattle.viz_piece_tets.specs.Asked.{asked}
use Rattle.viz_piece_tets.specs.Layers.{block_levels}

-- a piece of the tetrahedra of a whole, made of an image on a block of whole planes: its
-- tetrahedra with the leaves of the whole, and the level of each
abbrev pub tets_part : ℕ → ℕ → Bounds → ImageData → PartSheetData
tets_part p n whole block = record {
  sheet = shifted_sheet (leaf_shift whole block.extent) (tetrahedra_sheet block);
  levels = block_levels p n whole block.extent;
}

-- the block that a piece asks for gives a part of the whole's tetrahedra
abbrev pub TetsAreParts : Type 0
TetsAreParts =
    (whole block : ImageData) (p n ghosts : ℕ) → p < n
    → IsBlockOf whole (asked p n ghosts whole.extent) block
    → IsSheetPart (tetrahedra_sheet whole) (own_tets n whole.extent p) ghosts
    (tets_part p n whole.extent block)

-- how the tetrahedra of an extent are shared out in pieces: by layers of cubes
abbrev pub by_layers : Bounds → Division
by_layers b p n = own_tets n b p ∷ []

-- all pieces in turn own all tetrahedra
abbrev pub LayersShareOut : Type 0
LayersShareOut =
    (whole : ImageData) (n : ℕ) → IsImage whole → 0 < n
    → SharesOut (by_layers whole.extent) (tetrahedra_sheet whole ∷ []) n

-- of whatever image on the whole the block is that which the piece asks for, the part answers for
-- the piece
pub record AnswersTets (p n ghosts : ℕ) (whole : Bounds) (block : ImageData)
    (part : Part) : Type 0 where
  pub each : (image : ImageData) → image.extent ≡ whole
      → IsBlockOf image (asked p n ghosts whole) block
      → IsAnswer (dataset.Mesh (tetrahedra_sheet image ∷ [])) (by_layers whole)
      (Piece p n ghosts) part
