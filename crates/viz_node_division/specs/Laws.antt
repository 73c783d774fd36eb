-- What holds of the divisions of what nodes give (VTK User's Guide, "Streaming").
use Rattle.std.specs.Prelude.{◌≡◌, ◌↔◌, ℕ, ◌<◌, List, [], ◌∷◌, map, Option, None, Some, Ok}
use Rattle.viz_dataset.specs.declared.dataset.Dataset.{Dataset}
use Rattle.viz_dataset.specs.declared.dataset.Dataset.TheVariants.{Mesh}
use Rattle.viz_network.specs.Cone.{Cone, Tree, none, empty, fed}
use Rattle.viz_network.specs.declared.node.Node.{Node}
use Rattle.viz_node_meaning.specs.Data.{DataRule}
use Rattle.viz_node_meaning.specs.Fold.{IsGiven}
use Rattle.viz_node_meaning.specs.Rules.{Inputs}
use Rattle.viz_node_meaning.specs.Scratch.{IsScratchOf}
use Rattle.viz_parts.specs.Pieces.{Division, SharesOut}
use Rattle.viz_sheet.specs.Sheet.{SheetData}
use Rattle.viz_node_division.specs.Divided.{Divided, IsDivided, IsMadeOf}
use Rattle.viz_node_division.specs.Exact.{ExactRule}
use Rattle.viz_node_division.specs.Shares.{MarksCells, all_own}

-- ---- one division for each dataset

-- what a node gives from scratch is shared out somehow
abbrev pub DatasetsAreDivided : Type 0
DatasetsAreDivided =
    (cone : Option Tree) (whole : Dataset) → IsScratchOf cone (Ok whole)
    → (division : Division) × IsDivided cone whole division

-- what is shared out is what the exact rule gives
abbrev pub DividedAreExact : Type 0
DividedAreExact =
    (cone : Option Tree) (whole : Dataset) (division : Division)
    → IsDivided cone whole division → IsGiven ExactRule cone (Ok whole)

-- where no number is wide, the data are those of the exact rule
abbrev pub DataAreExact : Type 0
DataAreExact =
    (cone : Option Tree) (whole : Dataset) → IsGiven DataRule cone (Ok whole)
    → IsGiven ExactRule cone (Ok whole)

-- what the exact rule gives is shared out somehow
abbrev pub ExactAreDivided : Type 0
ExactAreDivided =
    (cone : Option Tree) (whole : Dataset) → IsGiven ExactRule cone (Ok whole)
    → (division : Division) × IsDivided cone whole division

-- equal cones give one dataset with one division
abbrev pub DivisionsAreOne : Type 0
DivisionsAreOne =
    (cone : Option Tree) (a b : Dataset) (c d : Division)
    → IsDivided cone a c → IsDivided cone b d → (a ≡ b) × (c ≡ d)

-- ---- pieces of meshes

-- own positions of all pieces are all positions, for each number of pieces
abbrev pub DivisionsShareOut : Type 0
DivisionsShareOut =
    (cone : Option Tree) (sheets : List SheetData) (division : Division)
    → IsDivided cone (Mesh sheets) division
    → (n : ℕ) → 0 < n → SharesOut division sheets n

-- each piece has a mark for each cell
abbrev pub DivisionsMarkCells : Type 0
DivisionsMarkCells =
    (cone : Option Tree) (sheets : List SheetData) (division : Division)
    → IsDivided cone (Mesh sheets) division
    → (n : ℕ) → 0 < n → MarksCells division sheets n

-- the only piece owns all cells
abbrev pub OnlyPieceOwnsAll : Type 0
OnlyPieceOwnsAll =
    (cone : Option Tree) (sheets : List SheetData) (division : Division)
    → IsDivided cone (Mesh sheets) division → division 0 1 ≡ map all_own sheets

-- ---- node by node

-- what is at the ports of a cone is what feeds them gives, as it is shared out
abbrev pub AreDivided : Cone → Inputs Divided → Type 0
AreDivided none [] = Unit {0}
AreDivided (empty others) (None ∷ inputs) = AreDivided others inputs
AreDivided (fed n own others) (Some d ∷ inputs) =
    IsDivided (Some (n, own)) d.whole d.division × AreDivided others inputs
AreDivided _ _ = ⊥

-- a node makes this dataset with this division of what feeds it
pub record IsMadeAtFoot (n : Node) (cone : Cone) (whole : Dataset) (division : Division)
    : Type 0 where
  pub inputs : Inputs Divided
  pub fed : AreDivided cone inputs
  pub made : IsMadeOf n.settings n.file inputs (record { whole = whole; division = division })

-- that is what the node gives, and nothing else is
abbrev pub DividedByPorts : Type 0
DividedByPorts =
    (n : Node) (cone : Cone) (whole : Dataset) (division : Division)
    → IsDivided (Some (n, cone)) whole division ↔ IsMadeAtFoot n cone whole division
