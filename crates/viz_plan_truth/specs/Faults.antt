-- What a task that failed tells of its node (VTK User's Guide, the executive: the data pass;
-- docs/FORMATS-OF-FILTERS.md, "Exact points").
use Rattle.std.specs.Prelude.{◌⊎◌, ℕ, ◌<◌, List, Contains, Option, None, Some, Ok, Err}
use Rattle.viz_dataset.specs.Images.{ImageData}
use Rattle.viz_dataset.specs.declared.dataset.Dataset.{Dataset}
use Rattle.viz_dataset.specs.declared.dataset.Dataset.TheVariants.{Image, Mesh}
use Rattle.viz_fraction.specs.declared.forms.Form.{Form}
use Rattle.viz_kinds.specs.declared.settings.Settings.{Settings}
use Rattle.viz_kinds.specs.declared.settings.Settings.TheVariants as settings
use Rattle.viz_meaning.specs.Narrow.{AreNarrowSections}
use Rattle.viz_network.specs.Cone.{Tree, cone_of}
use Rattle.viz_network.specs.declared.fault.Cause.{Cause}
use Rattle.viz_node_division.specs.Divided.{Divided}
use Rattle.viz_node_division.specs.Laws.{AreDivided}
use Rattle.viz_node_meaning.specs.Data.{
  DataRule,
  IsReadingOf,
  contour_forms,
  cut_forms,
  unit_with,
}
use Rattle.viz_node_meaning.specs.Fold.{IsGiven}
use Rattle.viz_node_meaning.specs.Information.{fed_at}
use Rattle.viz_node_meaning.specs.Rules.{Inputs}
use Rattle.viz_node_narrow.specs.Pieces.{AreNarrowImage}
use Rattle.viz_parts.specs.Parts.{PartSheetData}
use Rattle.viz_parts.specs.Pieces.{Division, IsBlockOf, IsPieceOf}
use Rattle.viz_parts.specs.declared.request.Request.{Request}
use Rattle.viz_parts.specs.declared.request.Request.TheVariants.{Block, Piece}
use Rattle.viz_piece_divisions.specs.Narrow.{sheets_of_parts}
use Rattle.viz_piece_tets.specs.Asked.{asked}
use Rattle.viz_plan_law.specs.Ports.{HaveOwnPorts}
use Rattle.viz_plan_meaning.specs.Known.{Known}
use Rattle.viz_plan_meaning.specs.Laws.{IsPlaced, plan_of}

-- a piece of a section by forms of a dataset would be made of a part of that, of which some section
-- has a wide number
abbrev pub IsWideMade : List Form → Dataset → Division → Request → Type 0
IsWideMade forms (Image image) division (Piece p n ghosts) =
    (p < n) × ((block : ImageData) × IsBlockOf image (asked p n ghosts image.extent) block
    × (AreNarrowImage forms block → ⊥))
IsWideMade forms (Mesh sheets) division (Piece p n ghosts) =
    (parts : List PartSheetData) × IsPieceOf sheets (division p n) ghosts parts
    × (AreNarrowSections forms (sheets_of_parts parts) → ⊥)
IsWideMade forms whole division (Block block) = ⊥

-- the same of what feeds a port
abbrev pub IsWidePort : List Form → Option Divided → Request → Type 0
IsWidePort forms None request = ⊥
IsWidePort forms (Some d) request = IsWideMade forms d.whole d.division request

-- so it is of what a node with these parameters would make
abbrev pub IsWideTask : Settings → Option Divided → Request → Type 0
IsWideTask (settings.Contour count levels) port request =
    IsWidePort (contour_forms count levels) port request
IsWideTask (settings.Cut a b c r) port request = IsWidePort (cut_forms a b c r) port request
IsWideTask _ port request = ⊥

-- the node has a file that isn't read, or none
abbrev pub IsUnread : Settings → Option (List ℕ) → Type 0
IsUnread (settings.File array unit) file =
    (cause : Cause) × IsReadingOf array (unit_with unit) file (Err cause)
IsUnread _ file = ⊥

-- what a task for a request at the foot of a cone that fails has met: a file that isn't read, or a
-- wide number in a section of what feeds the node by the exact rule
abbrev pub IsFaultyFoot : Option Tree → Request → Type 0
IsFaultyFoot None request = ⊥
IsFaultyFoot (Some t) request =
    IsUnread t.0.settings t.0.file
    ⊎ ((inputs : Inputs Divided) × AreDivided t.1 inputs
    × IsWideTask t.0.settings (fed_at 1 inputs) request)

-- then the node of the plan gives no dataset
abbrev pub FaultsShow : Type 0
FaultsShow =
    (k : Known) (sink : ℕ) (requests : List Request) (task : ℕ × Request)
    → IsPlaced k.net sink → HaveOwnPorts k.net → Contains (plan_of k sink requests) task
    → IsFaultyFoot (cone_of k.net task.0) task.1
    → (whole : Dataset) → IsGiven DataRule (cone_of k.net sink) (Ok whole) → ⊥
