-- Parts of datasets for requests: blocks of images, and pieces of meshes with their ghost cells
-- (VTK User's Guide, "Streaming").
use Rattle.std.specs.Prelude.{◌≡◌, ◌⊎◌, ℕ, ◌+◌, ◌-◌, ◌<◌, ◌≤◌, Bool, true, false, List, [], ◌++◌}
use Rattle.std.specs.Prelude.{length, map, replicate, slice_index_or}
use Rattle.std.specs.List.{flat_map, range_with_len}
use Rattle.viz_dataset.specs.Images.{ImageData, IsImage, IsRestricted}
use Rattle.viz_dataset.specs.declared.dataset.Dataset.{Dataset}
use Rattle.viz_dataset.specs.declared.dataset.Dataset.TheVariants.{Image as WholeImage}
use Rattle.viz_dataset.specs.declared.dataset.Dataset.TheVariants.{Mesh as WholeMesh}
use Rattle.viz_extent.specs.Extent.{Bounds}
use Rattle.viz_extent.specs.Parts.{IsPart}
use Rattle.viz_extent.specs.Slabs.{share_begin}
use Rattle.viz_sheet.specs.Kept.{kept}
use Rattle.viz_sheet.specs.Sheet.{SheetData, IsSheet, KeepPoints}
use Rattle.viz_parts.specs.Parts.{PartSheetData}
use Rattle.viz_parts.specs.Seen.{Seen, AreSeen, cells_seen, levels_seen, owned_seen, whole_seen}
use Rattle.viz_parts.specs.declared.request.Part.{Part}
use Rattle.viz_parts.specs.declared.request.Part.TheVariants.{Image, Mesh}
use Rattle.viz_parts.specs.declared.request.Request.{Request}
use Rattle.viz_parts.specs.declared.request.Request.TheVariants.{Block, Piece}

-- ---- blocks of images

-- the part of an image for a block: the image's numbers on it
pub record IsBlockOf (whole : ImageData) (block : Bounds) (part : ImageData) : Type 0 where
  pub whole_is : IsImage whole
  pub part_is : IsImage part
  pub within : IsPart whole.extent block
  pub same : IsRestricted whole block part

-- ---- pieces of sheets

-- a part of a sheet, with so many ghost levels, whose own positions are given: the cells that it
-- sees, their levels, and the points of their names
pub record IsPartOf (whole : SheetData) (own : List Bool) (ghosts : ℕ)
    (part : PartSheetData) : Type 0 where
  pub seen : List Seen
  pub covered : whole_seen seen ≡ whole.cells
  pub owned : owned_seen seen ≡ own
  pub rule : AreSeen ghosts seen
  pub cells : cells_seen seen ≡ part.sheet.cells
  pub levels : levels_seen seen ≡ part.levels
  pub points : KeepPoints part.sheet.names part.sheet.points whole.names whole.points

-- the same, and both are sheets
pub record IsSheetPart (whole : SheetData) (own : List Bool) (ghosts : ℕ)
    (part : PartSheetData) : Type 0 where
  pub whole_is : IsSheet whole
  pub sheet_is : IsSheet part.sheet
  pub part_is : IsPartOf whole own ghosts part

-- own positions, one after the other, are all positions of so many
abbrev pub AreAll : ℕ → List (List Bool) → Type 0
AreAll count owns = flat_map (λ own. kept own (range_with_len 0 count)) owns
    ≡ range_with_len 0 count

-- so many positions, of which those from one to before another are own
abbrev pub own_range : ℕ → ℕ → ℕ → List Bool
own_range count first next = replicate first false
    ++ (replicate (next - first) true ++ replicate (count - next) false)

-- the own positions of piece p of n where so many cells are shared out in turn
abbrev pub own_share : ℕ → ℕ → ℕ → List Bool
own_share p n count = own_range count (share_begin n count p) (share_begin n count (p + 1))

-- ---- pieces of meshes

-- how a mesh is shared out: for piece p of n the own positions of each sheet
abbrev pub Division : Type 0
Division = ℕ → ℕ → List (List Bool)

-- in turn: the cells of a file's mesh, and those of a merge
abbrev pub in_turn : List SheetData → Division
in_turn sheets p n = map (λ s. own_share p n (length s.cells)) sheets

-- a division of sheets in so many pieces: in each sheet the own positions of all pieces are all
-- positions
pub record SharesOut (division : Division) (sheets : List SheetData) (n : ℕ) : Type 0 where
  pub matched : (p : ℕ) → p < n → length (division p n) ≡ length sheets
  pub all : (k : ℕ) (s : SheetData) → k < length sheets
      → AreAll (length (slice_index_or sheets k s).cells)
      (map (λ p. slice_index_or (division p n) k []) (range_with_len 0 n))

-- a part of a mesh: of each sheet a part
pub record IsPieceOf (sheets : List SheetData) (owns : List (List Bool)) (ghosts : ℕ)
    (parts : List PartSheetData) : Type 0 where
  pub matched : length parts ≡ length sheets
  pub owned : length owns ≡ length sheets
  pub each : (k : ℕ) (s : SheetData) (p : PartSheetData) → k < length sheets
      → IsSheetPart (slice_index_or sheets k s) (slice_index_or owns k []) ghosts
      (slice_index_or parts k p)

-- ---- requests

-- a part is the block of an image
abbrev pub IsImageBlock : ImageData → Bounds → Part → Type 0
IsImageBlock whole block (Image image) = IsBlockOf whole block image
IsImageBlock whole block (Mesh parts) = ⊥

-- a part is a piece of a mesh, whose own positions are given
abbrev pub IsMeshPiece : List SheetData → List (List Bool) → ℕ → Part → Type 0
IsMeshPiece sheets owns ghosts (Image image) = ⊥
IsMeshPiece sheets owns ghosts (Mesh parts) = IsPieceOf sheets owns ghosts parts.items

-- the part is one of the dataset, shared out by this division, for the request
abbrev pub IsAnswer : Dataset → Division → Request → Part → Type 0
IsAnswer (WholeImage whole) division (Block block) part = IsImageBlock whole block part
IsAnswer (WholeMesh sheets) division (Piece p n ghosts) part =
    (p < n) × IsMeshPiece sheets (division p n) ghosts part
IsAnswer whole division request part = ⊥

-- a kept request covers a wanted one: a block each block in it, the only piece of a mesh every
-- piece, and a piece itself with as many ghost levels or fewer
abbrev pub Covers : Request → Request → Type 0
Covers (Block kept) (Block wanted) = IsPart kept wanted
Covers (Piece p n ghosts) (Piece q m fewer) =
    ((p ≡ 0) × (n ≡ 1)) ⊎ ((q ≡ p) × (m ≡ n) × (fewer ≤ ghosts))
Covers kept wanted = ⊥
