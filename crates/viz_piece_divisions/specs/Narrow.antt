-- Which sections of pieces have wide numbers: just where the sections of their mesh have
-- (docs/FORMATS-OF-FILTERS.md, "Exact points").
use Rattle.std.specs.Prelude.{ℕ, ◌<◌, List, All, map}
use Rattle.viz_fraction.specs.declared.forms.Form.{Form}
use Rattle.viz_meaning.specs.Narrow.{AreNarrowSections}
use Rattle.viz_parts.specs.Parts.{PartSheetData}
use Rattle.viz_parts.specs.Pieces.{Division, IsPieceOf, SharesOut}
use Rattle.viz_sheet.specs.Sheet.{SheetData}
use Rattle.viz_piece_divisions.specs.Divisions.{Owns}
use Rattle.viz_piece_divisions.specs.Pieces.{HasLevel}

-- the sheets of parts
abbrev pub sheets_of_parts : List PartSheetData → List SheetData
sheets_of_parts parts = map (λ part. part.sheet) parts

-- no number of a section of a piece is wide where none of its mesh's sections is
abbrev pub PiecesAreNarrow : Type 0
PiecesAreNarrow =
    (forms : List Form) (sheets : List SheetData) (owns : Owns) (ghosts : ℕ)
    (parts : List PartSheetData)
    → All HasLevel sheets → IsPieceOf sheets owns ghosts parts
    → AreNarrowSections forms sheets → AreNarrowSections forms (sheets_of_parts parts)

-- all pieces of a mesh, in none of whose sections a number is wide
pub record AreNarrowPieces (forms : List Form) (sheets : List SheetData) (division : Division)
    (n : ℕ)
    (pieces : ℕ → List PartSheetData) : Type 0 where
  pub some : 0 < n
  pub shared : SharesOut division sheets n
  pub ghosts : ℕ → ℕ
  pub each : (p : ℕ) → p < n → IsPieceOf sheets (division p n) (ghosts p) (pieces p)
  pub narrow : (p : ℕ) → p < n → AreNarrowSections forms (sheets_of_parts (pieces p))

-- then none of the mesh's sections is wide
abbrev pub MeshIsNarrow : Type 0
MeshIsNarrow =
    (forms : List Form) (sheets : List SheetData) (division : Division) (n : ℕ)
    (pieces : ℕ → List PartSheetData)
    → All HasLevel sheets → AreNarrowPieces forms sheets division n pieces
    → AreNarrowSections forms sheets
