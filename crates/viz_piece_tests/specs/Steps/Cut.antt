-- Pieces of a mesh that are cut in turn from its only piece.
use Rattle.std.specs.Prelude.{◌≡◌, ℕ, ◌<◌, List, length, slice_index_or}
use Rattle.viz_dataset.specs.declared.dataset.Dataset.TheVariants.{Mesh}
use Rattle.viz_parts.specs.Pieces.{IsAnswer, IsMeshPiece, in_turn}
use Rattle.viz_parts.specs.declared.request.Part.{Part}
use Rattle.viz_parts.specs.declared.request.Request.TheVariants.{Piece}
use Rattle.viz_sheet.specs.Sheet.{SheetData}

-- the part is a piece of a mesh whose cells are shared out in turn
abbrev pub IsCutInTurn : List SheetData → ℕ → ℕ → ℕ → Part → Type 0
IsCutInTurn sheets p n ghosts part = IsAnswer (Mesh sheets) (in_turn sheets) (Piece p n ghosts) part

-- so many pieces of n, in turn
pub record AreCut (sheets : List SheetData) (n ghosts count : ℕ) (parts : List Part) : Type 0 where
  pub size : length parts ≡ count
  pub each : (p : ℕ) (part : Part) → p < count
      → IsMeshPiece sheets (in_turn sheets p n) ghosts (slice_index_or parts p part)
