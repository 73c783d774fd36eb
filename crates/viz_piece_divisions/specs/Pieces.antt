-- What filters make of a piece of a mesh is a piece of what they make of the mesh (VTK User's
-- Guide, "Streaming").
use Rattle.std.specs.Prelude.{◌≡◌, ℕ, ◌+◌, ◌<◌, ℤ, Bool, List, [], All, length, map, slice_index_or}
use Rattle.std.specs.List.{flat_map}
use Rattle.viz_fraction.specs.declared.forms.Form.{Form}
use Rattle.viz_meaning.specs.Section.{sections_of}
use Rattle.viz_mesh_meaning.specs.Append.{appended}
use Rattle.viz_mesh_meaning.specs.Facets.{boundaries}
use Rattle.viz_mesh_meaning.specs.Select.{selections}
use Rattle.viz_parts.specs.Parts.{PartSheetData}
use Rattle.viz_parts.specs.Pieces.{IsPieceOf, IsSheetPart}
use Rattle.viz_piece_filters.specs.Filters.{boundary_part, selected_part}
use Rattle.viz_sheet.specs.PairNames.{AreNames}
use Rattle.viz_sheet.specs.Sheet.{SheetData, IsFit}
use Rattle.viz_piece_divisions.specs.Divisions.{Owns, appended_owns, boundary_owns, section_owns}
use Rattle.viz_piece_divisions.specs.Divisions.{section_parts, selected_owns}

-- a piece of the selections of sheets, whatever these are, where it is made of one of these
pub record IsSelectedPiece (all : Bool) (lo hi : ℤ) (parts made : List PartSheetData) : Type 0 where
  pub each : (sheets : List SheetData) (owns : Owns) (ghosts : ℕ)
      → IsPieceOf sheets owns ghosts parts
      → IsPieceOf (selections all lo hi sheets) (selected_owns all lo hi sheets owns) ghosts made

-- a piece of the boundaries of sheets, where it is made of one of these with one ghost level more
pub record IsBoundaryPiece (ghosts : ℕ) (parts made : List PartSheetData) : Type 0 where
  pub each : (sheets : List SheetData) (owns : Owns) → IsPieceOf sheets owns (ghosts + 1) parts
      → IsPieceOf (boundaries sheets) (boundary_owns sheets owns) ghosts made

-- all names of a sheet have one number of leaves
pub record HasLevel (s : SheetData) : Type 0 where
  pub size : ℕ
  pub names : AreNames size s.names

-- a piece of the sections by forms of sheets by names of one level each, where it is made of one
-- of these
pub record IsSectionPiece (forms : List Form) (parts made : List PartSheetData) : Type 0 where
  pub each : (sheets : List SheetData) (owns : Owns) (ghosts : ℕ) → All HasLevel sheets
      → IsPieceOf sheets owns ghosts parts
      → IsPieceOf (sections_of forms sheets) (section_owns forms sheets owns) ghosts made

-- a piece of each mesh
pub record ArePiecesOfEach (meshes : List (List SheetData)) (owns : List Owns) (ghosts : ℕ)
    (pieces : List (List PartSheetData)) : Type 0 where
  pub matched : length pieces ≡ length meshes
  pub owned : length owns ≡ length meshes
  pub each : (k : ℕ) → k < length meshes
      → IsPieceOf (slice_index_or meshes k []) (slice_index_or owns k []) ghosts
      (slice_index_or pieces k [])

-- a piece of joined meshes, where it is made of one of each
pub record IsAppendedPiece (pieces : List (List PartSheetData))
    (made : List PartSheetData) : Type 0 where
  pub each : (meshes : List (List SheetData)) (owns : List Owns) (ghosts : ℕ)
      → ArePiecesOfEach meshes owns ghosts pieces
      → IsPieceOf (appended meshes) (appended_owns owns) ghosts made

-- ---- laws

abbrev pub SelectionsOfPieces : Type 0
SelectionsOfPieces = (all : Bool) (lo hi : ℤ) (parts : List PartSheetData)
    → IsSelectedPiece all lo hi parts (map (selected_part all lo hi) parts)

abbrev pub BoundariesOfPieces : Type 0
BoundariesOfPieces = (ghosts : ℕ) (parts : List PartSheetData)
    → IsBoundaryPiece ghosts parts (map (boundary_part ghosts) parts)

abbrev pub SectionsOfPieces : Type 0
SectionsOfPieces = (forms : List Form) (parts : List PartSheetData)
    → IsSectionPiece forms parts (section_parts forms parts)

abbrev pub AppendedPieces : Type 0
AppendedPieces = (pieces : List (List PartSheetData))
    → IsAppendedPiece pieces (flat_map (λ piece. piece) pieces)

-- a part of a sheet that fits fits
abbrev pub PartsFit : Type 0
PartsFit = (whole : SheetData) (own : List Bool) (ghosts : ℕ) (part : PartSheetData)
    → IsSheetPart whole own ghosts part → IsFit whole → IsFit part.sheet
