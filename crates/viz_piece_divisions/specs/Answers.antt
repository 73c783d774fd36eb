-- From true parts of a filter's inputs, a true part of what it makes (VTK User's Guide,
-- "Streaming").
use Rattle.std.specs.Prelude.{◌≡◌, ℕ, ◌+◌, ◌<◌, ℤ, Bool, List, [], ◌∷◌, All, length, slice_index_or}
use Rattle.viz_dataset.specs.declared.dataset.Dataset.TheVariants.{Mesh as WholeMesh}
use Rattle.viz_fraction.specs.declared.forms.Form.{Form}
use Rattle.viz_meaning.specs.Narrow.{AreNarrowSections}
use Rattle.viz_meaning.specs.Section.{sections_of}
use Rattle.viz_mesh_meaning.specs.Append.{appended}
use Rattle.viz_mesh_meaning.specs.Facets.{boundaries}
use Rattle.viz_mesh_meaning.specs.Merge.{merged}
use Rattle.viz_mesh_meaning.specs.Select.{selections}
use Rattle.viz_parts.specs.Parts.{PartSheetData}
use Rattle.viz_parts.specs.Pieces.{Division, IsAnswer, SharesOut, in_turn}
use Rattle.viz_parts.specs.declared.request.Part.{Part}
use Rattle.viz_parts.specs.declared.request.Part.TheVariants.{Image, Mesh}
use Rattle.viz_parts.specs.declared.request.Request.TheVariants.{Piece}
use Rattle.viz_sheet.specs.Sheet.{SheetData, IsFit}
use Rattle.viz_piece_divisions.specs.Divisions.{appended_division, boundary_owns, handed_division}
use Rattle.viz_piece_divisions.specs.Divisions.{section_owns, selected_owns}
use Rattle.viz_piece_divisions.specs.Narrow.{sheets_of_parts}
use Rattle.viz_piece_divisions.specs.Pieces.{HasLevel}

-- the parts of the sheets of a mesh, as a part has them
abbrev pub parts_in : Part → List PartSheetData
parts_in (Image image) = []
parts_in (Mesh parts) = parts.items

-- a part is one of a mesh
abbrev pub IsOfMesh : Part → Type 0
IsOfMesh (Image image) = ⊥
IsOfMesh (Mesh parts) = Unit {0}

-- each sheet of a part fits
pub record IsFitPart (part : Part) : Type 0 where
  pub each : All (λ p. IsFit p.sheet) (parts_in part)

-- no number of a section of a part by some form is wide
pub record IsNarrowPart (forms : List Form) (part : Part) : Type 0 where
  pub sections : AreNarrowSections forms (sheets_of_parts (parts_in part))

-- of the selections of a mesh, a part for each request that the input is a part of the mesh for
pub record IsSelectedAnswer (all : Bool) (lo hi : ℤ) (input made : Part) : Type 0 where
  pub answers : (sheets : List SheetData) (division : Division) (p n ghosts : ℕ)
      → IsAnswer (WholeMesh sheets) division (Piece p n ghosts) input
      → IsAnswer (WholeMesh (selections all lo hi sheets))
      (handed_division (selected_owns all lo hi) sheets division)
      (Piece p n ghosts) made

-- of the sections of a mesh by names of one level each, a part for each request that the input is
-- a part of the mesh for
pub record IsSectionAnswer (forms : List Form) (input made : Part) : Type 0 where
  pub answers : (sheets : List SheetData) (division : Division) (p n ghosts : ℕ)
      → All HasLevel sheets
      → IsAnswer (WholeMesh sheets) division (Piece p n ghosts) input
      → IsAnswer (WholeMesh (sections_of forms sheets))
      (handed_division (section_owns forms) sheets division)
      (Piece p n ghosts) made

-- of the boundaries of a mesh, a part for the piece that the input is a part of the mesh for, with
-- one ghost level fewer
pub record IsBoundaryAnswer (ghosts : ℕ) (input made : Part) : Type 0 where
  pub answers : (sheets : List SheetData) (division : Division) (p n : ℕ)
      → IsAnswer (WholeMesh sheets) division (Piece p n (ghosts + 1)) input
      → IsAnswer (WholeMesh (boundaries sheets)) (handed_division boundary_owns sheets division)
      (Piece p n ghosts) made

-- inputs are parts of meshes for one request
pub record AreAnswers (meshes : List (List SheetData)) (divisions : List Division) (p n ghosts : ℕ)
    (inputs : List Part) : Type 0 where
  pub matched : length inputs ≡ length meshes
  pub divided : length divisions ≡ length meshes
  pub below : p < n
  pub each : (k : ℕ) (d : Division) (input : Part) → k < length meshes
      → IsAnswer (WholeMesh (slice_index_or meshes k [])) (slice_index_or divisions k d)
      (Piece p n ghosts) (slice_index_or inputs k input)

-- of joined meshes, a part for each request that the inputs are parts of the meshes for
pub record IsAppendedAnswer (inputs : List Part) (made : Part) : Type 0 where
  pub answers : (meshes : List (List SheetData)) (divisions : List Division) (p n ghosts : ℕ)
      → AreAnswers meshes divisions p n ghosts inputs
      → IsAnswer (WholeMesh (appended meshes)) (appended_division divisions) (Piece p n ghosts) made

-- of the merge of a mesh, its only piece, where the input is the only piece of the mesh
pub record IsMergedAnswer (input made : Part) : Type 0 where
  pub answers : (sheets : List SheetData) (division : Division) (ghosts : ℕ)
      → SharesOut division sheets 1
      → IsAnswer (WholeMesh sheets) division (Piece 0 1 ghosts) input
      → IsAnswer (WholeMesh (merged sheets ∷ [])) (in_turn (merged sheets ∷ [])) (Piece 0 1 0) made
