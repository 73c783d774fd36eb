-- The sections of an image in pieces: each piece owns the cells in its own tetrahedra (VTK User's
-- Guide, "Streaming").
use Rattle.std.specs.Prelude.{◌≡◌, ℕ, ◌<◌, Bool, List, [], ◌∷◌, map}
use Rattle.viz_dataset.specs.Images.{ImageData, IsImage}
use Rattle.viz_dataset.specs.declared.dataset.Dataset.TheVariants as dataset
use Rattle.viz_extent.specs.Extent.{Bounds}
use Rattle.viz_fraction.specs.declared.forms.Form.{Form}
use Rattle.viz_meaning.specs.Section.{section_of, sections_of}
use Rattle.viz_meaning.specs.Tetrahedra.{tetrahedra_sheet}
use Rattle.viz_parts.specs.Parts.{PartSheetData}
use Rattle.viz_parts.specs.Pieces.{Division, IsAnswer, IsBlockOf, IsSheetPart, SharesOut}
use Rattle.viz_parts.specs.declared.request.Part.{Part}
use Rattle.viz_parts.specs.declared.request.Request.TheVariants.{Piece}
use Rattle.viz_piece_filters.specs.Filters.{handed_section, section_part}
use Rattle.viz_piece_layers.specs.Pieces.{own_tets}
use Rattle.viz_piece_tets.specs.Asked.{asked}
use Rattle.viz_piece_tets.specs.Tets.{tets_part}

-- the own positions of piece p of n in the section of an image: the cells in its own tetrahedra
abbrev pub own_section : Form → ImageData → ℕ → ℕ → List Bool
own_section f image p n = handed_section f (tetrahedra_sheet image) (own_tets n image.extent p)

-- a piece of the section of a whole, made of an image on a block of whole planes: the section of
-- its tetrahedra, each cell with the level of the one that it is in
abbrev pub section_piece : Form → ℕ → ℕ → Bounds → ImageData → PartSheetData
section_piece f p n whole block = section_part f (tets_part p n whole block)

-- the block that a piece asks for gives a part of the whole's section
abbrev pub SectionsAreParts : Type 0
SectionsAreParts =
    (f : Form) (whole block : ImageData) (p n ghosts : ℕ) → p < n
    → IsBlockOf whole (asked p n ghosts whole.extent) block
    → IsSheetPart (section_of f (tetrahedra_sheet whole)) (own_section f whole p n) ghosts
    (section_piece f p n whole.extent block)

-- how the sections of an image by forms are shared out in pieces
abbrev pub sections_by_layers : List Form → ImageData → Division
sections_by_layers forms image p n = map (λ f. own_section f image p n) forms

-- all pieces in turn own all cells of the sections
abbrev pub SectionsShareOut : Type 0
SectionsShareOut =
    (forms : List Form) (whole : ImageData) (n : ℕ) → IsImage whole → 0 < n
    → SharesOut (sections_by_layers forms whole) (sections_of forms (tetrahedra_sheet whole ∷ [])) n

-- of whatever image on the whole the block is that which the piece asks for, the part answers for
-- the piece of its sections
pub record AnswersSections (forms : List Form) (p n ghosts : ℕ) (whole : Bounds)
    (block : ImageData) (part : Part) : Type 0 where
  pub each : (image : ImageData) → image.extent ≡ whole
      → IsBlockOf image (asked p n ghosts whole) block
      → IsAnswer (dataset.Mesh (sections_of forms (tetrahedra_sheet image ∷ [])))
      (sections_by_layers forms image) (Piece p n ghosts) part
