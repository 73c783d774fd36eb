-- Parts that the tasks of a plan make, and what they tell of wide numbers (VTK User's Guide, the
-- executive: the data pass; docs/FORMATS-OF-FILTERS.md, "Exact points").
use Rattle.std.specs.Prelude.{◌≡◌, ◌⊎◌, ℕ, ◌<◌, List, ◌∷◌, All, Contains, map, Option, None, Some}
use Rattle.std.specs.Prelude.{Ok}
use Rattle.std.specs.List.{range_with_len}
use Rattle.viz_dataset.specs.Images.{ImageData}
use Rattle.viz_dataset.specs.declared.dataset.Dataset.{Dataset}
use Rattle.viz_dataset.specs.declared.dataset.Dataset.TheVariants.{Image, Mesh}
use Rattle.viz_extent.specs.Extent.{Bounds}
use Rattle.viz_fraction.specs.declared.forms.Form.{Form}
use Rattle.viz_kept.specs.True.{AreTrueIn, IsNodePart}
use Rattle.viz_kinds.specs.declared.settings.Settings.{Settings}
use Rattle.viz_kinds.specs.declared.settings.Settings.TheVariants as settings
use Rattle.viz_meaning.specs.Narrow.{AreNarrowSections}
use Rattle.viz_network.specs.Cone.{Tree, cone_of}
use Rattle.viz_network.specs.Network.{Network}
use Rattle.viz_node_division.specs.Divided.{Divided, IsDivided}
use Rattle.viz_node_division.specs.Laws.{AreDivided}
use Rattle.viz_node_meaning.specs.Data.{contour_forms, cut_forms}
use Rattle.viz_node_division.specs.Exact.{ExactRule}
use Rattle.viz_node_meaning.specs.Fold.{IsGiven}
use Rattle.viz_node_meaning.specs.Information.{InformationRule, fed_at}
use Rattle.viz_node_meaning.specs.Scratch.{IsScratch}
use Rattle.viz_node_meaning.specs.declared.information.Information.{Information}
use Rattle.viz_node_meaning.specs.Rules.{Inputs}
use Rattle.viz_node_narrow.specs.Nodes.{IsNarrowCone}
use Rattle.viz_node_narrow.specs.Pieces.{AreNarrowImage}
use Rattle.viz_parts.specs.Parts.{PartSheetData}
use Rattle.viz_parts.specs.Pieces.{Division, IsBlockOf, IsPieceOf}
use Rattle.viz_parts.specs.declared.request.Part.{Part}
use Rattle.viz_parts.specs.declared.request.Request.{Request}
use Rattle.viz_parts.specs.declared.request.Request.TheVariants.{Block, Piece}
use Rattle.viz_piece_divisions.specs.Narrow.{sheets_of_parts}
use Rattle.viz_piece_divisions.specs.Pieces.{HasLevel}
use Rattle.viz_piece_tets.specs.Asked.{asked}
use Rattle.viz_plan_law.specs.Cutting.{IsExactPart}
use Rattle.viz_plan_law.specs.Ports.{HaveOwnPorts}
use Rattle.viz_plan_meaning.specs.Known.{Known}
use Rattle.viz_plan_meaning.specs.Laws.{IsPlaced, plan_of}
use Rattle.viz_sheet.specs.Sheet.{SheetData}

-- ---- sections of a part

-- a piece of a section by forms of a dataset is made of a part of that, none of whose sections has
-- a wide number
abbrev pub IsNarrowMade : List Form → Dataset → Division → Request → Type 0
IsNarrowMade forms (Image image) division (Piece p n ghosts) =
    (block : ImageData) × IsBlockOf image (asked p n ghosts image.extent) block
    × AreNarrowImage forms block
IsNarrowMade forms (Mesh sheets) division (Piece p n ghosts) =
    (parts : List PartSheetData) × IsPieceOf sheets (division p n) ghosts parts
    × AreNarrowSections forms (sheets_of_parts parts)
IsNarrowMade forms whole division (Block block) = ⊥

-- the same of what feeds a port
abbrev pub IsNarrowPort : List Form → Option Divided → Request → Type 0
IsNarrowPort forms None request = Unit {0}
IsNarrowPort forms (Some d) request = IsNarrowMade forms d.whole d.division request

-- so it is of what a node with these parameters makes, if that is a section
abbrev pub IsNarrowTask : Settings → Option Divided → Request → Type 0
IsNarrowTask (settings.Contour count levels) port request =
    IsNarrowPort (contour_forms count levels) port request
IsNarrowTask (settings.Cut a b c r) port request = IsNarrowPort (cut_forms a b c r) port request
IsNarrowTask _ port request = Unit {0}

-- ---- tasks

-- so it is of what the node at the foot of a cone makes, whatever feeds its ports
abbrev pub IsNarrowFoot : Option Tree → Request → Type 0
IsNarrowFoot None request = Unit {0}
IsNarrowFoot (Some t) request =
    (inputs : Inputs Divided) → AreDivided t.1 inputs
    → IsNarrowTask t.0.settings (fed_at 1 inputs) request

-- a part that a task made for a request at a node: of what the node gives by the exact rule, and
-- without a wide number
pub record IsTaskPart (net : Network) (id : ℕ) (request : Request) (part : Part) : Type 0 where
  pub exact : IsExactPart (cone_of net id) request part
  pub narrow : IsNarrowFoot (cone_of net id) request

-- a task that came out: it made some part
abbrev pub HasTaskPart : Network → ℕ × Request → Type 0
HasTaskPart net task = (part : Part) × IsTaskPart net task.0 task.1 part

-- ---- requests for all

-- requests for all pieces of a mesh without ghost levels, in turn
abbrev pub all_pieces : ℕ → List Request
all_pieces n = map (λ p. Piece p n 0) (range_with_len 0 n)

-- requests for all of a mesh, or for some block of an image
abbrev pub AreForAll : List Request → Type 0
AreForAll requests =
    ((n : ℕ) × (0 < n) × (requests ≡ all_pieces n))
    ⊎ ((block : Bounds) × (more : List Request) × (requests ≡ Block block ∷ more))

-- a plan of requests for all of what a node gives, in a network with true entries, whose tasks all
-- came out
pub record CameOut (k : Known) (sink : ℕ) (requests : List Request) : Type 0 where
  pub placed : IsPlaced k.net sink
  pub ports : HaveOwnPorts k.net
  pub entries : AreTrueIn k.net k.entries
  pub all : AreForAll requests
  pub each : All (HasTaskPart k.net) (plan_of k sink requests)

-- ---- laws

-- where such a plan came out, no number of a section is wide at any node upstream
abbrev pub PlansAreNarrow : Type 0
PlansAreNarrow =
    (k : Known) (sink : ℕ) (requests : List Request) → CameOut k sink requests
    → IsNarrowCone (cone_of k.net sink)

-- then what the node gives by the exact rule it gives from scratch
abbrev pub PlansGive : Type 0
PlansGive =
    (k : Known) (sink : ℕ) (requests : List Request) → CameOut k sink requests
    → (i : Information) (whole : Dataset)
    → IsGiven InformationRule (cone_of k.net sink) (Ok i)
    → IsGiven ExactRule (cone_of k.net sink) (Ok whole) → IsScratch k.net sink (Ok whole)

-- then each part of a task is one that its node gives from scratch
abbrev pub PlansMakeParts : Type 0
PlansMakeParts =
    (k : Known) (sink : ℕ) (requests : List Request) → CameOut k sink requests
    → (i : Information) → IsGiven InformationRule (cone_of k.net sink) (Ok i)
    → (task : ℕ × Request) → Contains (plan_of k sink requests) task
    → (part : Part) → IsTaskPart k.net task.0 task.1 part
    → IsNodePart (cone_of k.net task.0) task.1 part
