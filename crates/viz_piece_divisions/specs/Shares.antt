-- Own positions of all pieces of what a filter makes are all positions (VTK User's Guide,
-- "Streaming").
use Rattle.std.specs.Prelude.{◌≡◌, ℕ, ◌<◌, ℤ, Bool, List, [], length, slice_index_or}
use Rattle.viz_fraction.specs.declared.forms.Form.{Form}
use Rattle.viz_meaning.specs.Section.{sections_of}
use Rattle.viz_mesh_meaning.specs.Append.{appended}
use Rattle.viz_mesh_meaning.specs.Facets.{boundaries}
use Rattle.viz_mesh_meaning.specs.Select.{selections}
use Rattle.viz_parts.specs.Pieces.{Division, SharesOut, in_turn}
use Rattle.viz_sheet.specs.Sheet.{SheetData}
use Rattle.viz_piece_divisions.specs.Divisions.{appended_division, boundary_owns, handed_division}
use Rattle.viz_piece_divisions.specs.Divisions.{section_owns, selected_owns}

abbrev pub TurnSharesOut : Type 0
TurnSharesOut = (sheets : List SheetData) (n : ℕ) → 0 < n → SharesOut (in_turn sheets) sheets n

abbrev pub SelectionsShareOut : Type 0
SelectionsShareOut =
    (all : Bool) (lo hi : ℤ) (sheets : List SheetData) (division : Division) (n : ℕ)
    → SharesOut division sheets n
    → SharesOut (handed_division (selected_owns all lo hi) sheets division)
    (selections all lo hi sheets) n

abbrev pub SectionsShareOut : Type 0
SectionsShareOut =
    (forms : List Form) (sheets : List SheetData) (division : Division) (n : ℕ)
    → SharesOut division sheets n
    → SharesOut (handed_division (section_owns forms) sheets division) (sections_of forms sheets) n

abbrev pub BoundariesShareOut : Type 0
BoundariesShareOut =
    (sheets : List SheetData) (division : Division) (n : ℕ) → SharesOut division sheets n
    → SharesOut (handed_division boundary_owns sheets division) (boundaries sheets) n

-- a division of each mesh shares it out
pub record AreSharedOut (meshes : List (List SheetData)) (divisions : List Division)
    (n : ℕ) : Type 0 where
  pub matched : length divisions ≡ length meshes
  pub each : (k : ℕ) (d : Division) → k < length meshes
      → SharesOut (slice_index_or divisions k d) (slice_index_or meshes k []) n

abbrev pub AppendedShareOut : Type 0
AppendedShareOut =
    (meshes : List (List SheetData)) (divisions : List Division) (n : ℕ)
    → AreSharedOut meshes divisions n
    → SharesOut (appended_division divisions) (appended meshes) n
