-- Parts cut from parts: what is kept for one request serves another that it covers (VTK User's
-- Guide, "Streaming").
use Rattle.std.specs.Prelude.{Bool, ℕ, ◌≡◌, ◌⊎◌, ◌<◌, ◌≤◌, List}
use Rattle.viz_dataset.specs.declared.dataset.Dataset.{Dataset}
use Rattle.viz_dataset.specs.declared.dataset.Dataset.TheVariants.{Image as WholeImage}
use Rattle.viz_dataset.specs.declared.dataset.Dataset.TheVariants.{Mesh as WholeMesh}
use Rattle.viz_parts.specs.Pieces.{Division, IsAnswer, IsSheetPart, in_turn}
use Rattle.viz_parts.specs.Parts.{PartSheetData}
use Rattle.viz_parts.specs.Seen.{AreSteps}
use Rattle.viz_parts.specs.declared.request.Part.{Part}
use Rattle.viz_parts.specs.declared.request.Request.{Request}
use Rattle.viz_parts.specs.declared.request.Request.TheVariants.{Block, Piece}
use Rattle.viz_sheet.specs.Sheet.{SheetData}

-- a piece is one of so many
abbrev pub IsOneOfMany : Request → Type 0
IsOneOfMany (Block block) = Unit {0}
IsOneOfMany (Piece p n ghosts) = p < n

-- the part answers the request, of some dataset and by some division
pub record IsSomeAnswer (request : Request) (part : Part) : Type 0 where
  pub whole : Dataset
  pub division : Division
  pub answers : IsAnswer whole division request part

-- the same piece, with as many ghost levels or fewer
abbrev pub IsSamePiece : Request → Request → Type 0
IsSamePiece (Piece p n ghosts) (Piece q m fewer) = (q ≡ p) × (m ≡ n) × (fewer ≤ ghosts)
IsSamePiece kept wanted = ⊥

-- the division's own positions for a request are cells of the sheets in turn
abbrev pub IsInTurn : List SheetData → Division → Request → Type 0
IsInTurn sheets division (Block block) = ⊥
IsInTurn sheets division (Piece p n ghosts) = division p n ≡ in_turn sheets p n

-- a division lets a kept piece be restricted to a wanted one: it is the same, or both are cells in
-- turn, as in a file and in a merge
abbrev pub LetsRestrict : Dataset → Division → Request → Request → Type 0
LetsRestrict (WholeImage whole) division kept wanted = Unit {0}
LetsRestrict (WholeMesh sheets) division kept wanted =
    IsSamePiece kept wanted ⊎ (IsInTurn sheets division kept × IsInTurn sheets division wanted)

-- the restriction of a kept part: of each dataset and division that lets it be made,
-- it answers the wanted request where the part answers its own
pub record IsRestriction (kept wanted : Request) (part restricted : Part) : Type 0 where
  pub answers : (whole : Dataset) (division : Division) → LetsRestrict whole division kept wanted
      → IsAnswer whole division kept part → IsAnswer whole division wanted restricted

-- a part of a sheet whose ghost levels are the least numbers of steps from its own cells
pub record IsGrownPart (whole : SheetData) (own : List Bool) (ghosts : ℕ)
    (part : PartSheetData) : Type 0 where
  pub part_is : IsSheetPart whole own ghosts part
  pub steps : AreSteps part_is.part_is.seen
