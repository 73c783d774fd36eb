-- The parts of a mesh, sheet by sheet.
use Rattle.std.specs.Prelude.{◌≡◌, ℕ, ◌<◌, List, [], All, length, map}
use Rattle.std.specs.Prelude.{slice_index_or}
use Rattle.viz_parts.specs.Parts.{PartSheetData}
use Rattle.viz_parts.specs.Stitching.{own_items}
use Rattle.viz_parts.specs.declared.request.Part.{Part}
use Rattle.viz_parts.specs.declared.request.Part.TheVariants.{Image, Mesh}
use Rattle.viz_sheet.specs.Sheet.{SheetData, IsSheet}
use Rattle.std.specs.List.{flat_map}
use Rattle.viz_piece_stitch.specs.Steps.Joining.{HavePoints}

-- a part of a mesh
abbrev pub IsMesh : Part → Type 0
IsMesh (Image image) = ⊥
IsMesh (Mesh parts) = Unit {0}

-- its sheets
abbrev pub sheets_in : Part → List PartSheetData
sheets_in (Image image) = []
sheets_in (Mesh parts) = parts.items

-- a part of a mesh of so many sheets
pub record IsMeshOf (count : ℕ) (part : Part) : Type 0 where
  pub mesh : IsMesh part
  pub count_is : length (sheets_in part) ≡ count

-- a part of a mesh with a sheet at an index
pub record HasSheet (k : ℕ) (part : Part) : Type 0 where
  pub mesh : IsMesh part
  pub within : k < length (sheets_in part)

-- what stands for a sheet that there isn't
abbrev pub no_sheet : PartSheetData
no_sheet = record { sheet = record { names = []; points = []; cells = [] }; levels = [] }

-- its sheet at an index
abbrev pub sheet_at : ℕ → Part → PartSheetData
sheet_at k part = slice_index_or (sheets_in part) k no_sheet

-- the parts of one sheet in all of them
abbrev pub sheets_at : ℕ → List Part → List PartSheetData
sheets_at k parts = map (sheet_at k) parts

-- a sheet joined of its parts
pub record IsJoinedSheet (parts : List PartSheetData) (s : SheetData) : Type 0 where
  pub valid : IsSheet s
  pub cells : s.cells ≡ flat_map (λ p. own_items p.sheet.cells p.levels) parts
  pub points : HavePoints parts s

-- parts whose sheets are sheets
abbrev pub AreSheets : List PartSheetData → Type 0
AreSheets parts = All (λ p. IsSheet p.sheet) parts

-- each of so many sheets is joined of its parts
pub record AreJoinedSheets (count : ℕ) (parts : List Part) (sheets : List SheetData) : Type 0 where
  pub size : length sheets ≡ count
  pub each : (k : ℕ) (s : SheetData) → k < count
      → IsJoinedSheet (sheets_at k parts) (slice_index_or sheets k s)
