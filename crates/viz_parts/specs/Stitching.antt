-- All parts of a dataset, and what they are put together (VTK User's Guide, "Streaming").
use Rattle.std.specs.Prelude.{◌≡◌, ℕ, ◌<◌, ◌==◌, if◌then◌else◌, List, [], ◌∷◌, length, flat_map}
use Rattle.std.specs.Prelude.{All, option_to_list, slice_index_or}
use Rattle.std.specs.List.{AllZip, range_with_len}
use Rattle.viz_dataset.specs.Images.{ImageData}
use Rattle.viz_dataset.specs.declared.dataset.Dataset.{Dataset}
use Rattle.viz_dataset.specs.declared.dataset.Dataset.TheVariants.{Image as WholeImage}
use Rattle.viz_dataset.specs.declared.dataset.Dataset.TheVariants.{Mesh as WholeMesh}
use Rattle.viz_extent.specs.Extent.{Bounds}
use Rattle.viz_extent.specs.Slabs.{slab_of}
use Rattle.viz_sheet.specs.Sheet.{SheetData, KeepPoints}
use Rattle.viz_parts.specs.Parts.{PartSheetData}
use Rattle.viz_parts.specs.Pieces.{Division, IsImageBlock, IsMeshPiece, SharesOut}
use Rattle.viz_parts.specs.declared.request.Part.{Part}

-- the items whose level is 0, in order: of cells, those that are the piece's own
abbrev pub own_items : {X : Type 0} → List X → List ℕ → List X
own_items [] levels = []
own_items (x ∷ xs) [] = []
own_items (x ∷ xs) (l ∷ ls) = if l == 0 then x ∷ own_items xs ls else own_items xs ls

-- a sheet put together of its parts: their own cells, in order, and the points of them all
pub record IsStitchedSheet (parts : List PartSheetData) (whole : SheetData) : Type 0 where
  pub cells : flat_map (λ p. own_items p.sheet.cells p.levels) parts ≡ whole.cells
  pub points : All (λ p. KeepPoints p.sheet.names p.sheet.points whole.names whole.points) parts

-- the slabs of an extent that there are, in turn
abbrev pub slabs_in : ℕ → Bounds → List Bounds
slabs_in n b = flat_map (λ p. option_to_list (slab_of p n b)) (range_with_len 0 n)

-- the parts of all slabs of an image, in turn
pub record AreSlabsOf (whole : ImageData) (parts : List Part) : Type 0 where
  pub slabs : ℕ
  pub some : 0 < slabs
  pub each : AllZip (IsImageBlock whole) (slabs_in slabs whole.extent) parts

-- all pieces of a mesh by a division that shares it out, in turn, with any number of ghost levels
-- each
pub record ArePiecesOf (sheets : List SheetData) (parts : List Part) : Type 0 where
  pub division : Division
  pub ghosts : ℕ → ℕ
  pub some : 0 < length parts
  pub shared : SharesOut division sheets (length parts)
  pub each : (p : ℕ) (part : Part) → p < length parts
      → IsMeshPiece sheets (division p (length parts)) (ghosts p) (slice_index_or parts p part)

-- all parts of a dataset
abbrev pub AreAllOf : Dataset → List Part → Type 0
AreAllOf (WholeImage whole) parts = AreSlabsOf whole parts
AreAllOf (WholeMesh sheets) parts = ArePiecesOf sheets parts

-- they are all parts of some dataset
abbrev pub AreAllParts : List Part → Type 0
AreAllParts parts = (whole : Dataset) × AreAllOf whole parts
