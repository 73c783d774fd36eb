-- Of true parts of what feeds a node, the part that it makes is one of what it makes (VTK User's
-- Guide, the executive and "Streaming").
use Rattle.std.specs.Prelude.{ℕ, List, [], ◌∷◌, All, Option, None, Some, Ok}
use Rattle.viz_dataset.specs.declared.dataset.Dataset.{Dataset}
use Rattle.viz_dataset.specs.declared.dataset.Dataset.TheVariants as dataset
use Rattle.viz_extent.specs.Extent.{Bounds}
use Rattle.viz_kinds.specs.declared.settings.Settings.{Settings}
use Rattle.viz_kinds.specs.declared.settings.Settings.TheVariants as settings
use Rattle.viz_meaning.specs.Tetrahedra.{sheets_of}
use Rattle.viz_network.specs.Cone.{Tree}
use Rattle.viz_node_answers.specs.Answers.{IsPartFor}
use Rattle.viz_node_division.specs.Divided.{Divided, IsDivided, IsMadeOf}
use Rattle.viz_node_meaning.specs.Information.{fed_at}
use Rattle.viz_node_meaning.specs.Rules.{Inputs}
use Rattle.viz_node_meaning.specs.Scratch.{IsScratchOf}
use Rattle.viz_parts.specs.Pieces.{SharesOut}
use Rattle.viz_parts.specs.declared.request.Part.{Part}
use Rattle.viz_parts.specs.declared.request.Request.{Request}
use Rattle.viz_piece_divisions.specs.Pieces.{HasLevel}
use Rattle.viz_requests.specs.Upstream.{Fits, asked, widened}
use Rattle.viz_sheet.specs.Sheet.{IsFit}
use Rattle.viz_node_parts.specs.Made.{MakesPart}
use Rattle.viz_node_parts.specs.Taken.{TakesParts}

-- the extent of an image, none of a mesh
abbrev pub dataset_extent : Dataset → Option Bounds
dataset_extent (dataset.Image image) = Some image.extent
dataset_extent (dataset.Mesh sheets) = None

-- that of what feeds the first port that is fed
abbrev pub extent_at_ports : Inputs Divided → Option Bounds
extent_at_ports [] = None
extent_at_ports (None ∷ inputs) = extent_at_ports inputs
extent_at_ports (Some d ∷ inputs) = dataset_extent d.whole

-- each port that is fed has a part for the request, of what feeds it
abbrev pub AreAnswered : Inputs Divided → Request → Inputs Part → Type 0
AreAnswered [] request [] = Unit {0}
AreAnswered (None ∷ inputs) request (None ∷ parts) = AreAnswered inputs request parts
AreAnswered (Some d ∷ inputs) request (Some part ∷ parts) =
    IsPartFor d request part × AreAnswered inputs request parts
AreAnswered _ _ _ = ⊥

-- ---- premises of some kinds

-- each sheet of a mesh has names of one level
abbrev pub HasLeveledSheets : Dataset → Type 0
HasLeveledSheets (dataset.Image image) = Unit {0}
HasLeveledSheets (dataset.Mesh sheets) = All HasLevel sheets

-- so it is of what feeds a port
abbrev pub IsLeveledAt : Option Divided → Type 0
IsLeveledAt (Some d) = HasLeveledSheets d.whole
IsLeveledAt None = Unit {0}

-- the only piece of what feeds a port is all of it
abbrev pub CanMerge : Option Divided → Type 0
CanMerge (Some d) = SharesOut d.division (sheets_of d.whole) 1
CanMerge None = Unit {0}

-- a node gives the dataset from scratch, and it is so shared out
pub record IsGivenBy (cone : Option Tree) (made : Divided) : Type 0 where
  pub scratch : IsScratchOf cone (Ok made.whole)
  pub divided : IsDivided cone made.whole made.division

-- some node does
abbrev pub IsGivenAnywhere : Divided → Type 0
IsGivenAnywhere made = (cone : Option Tree) × IsGivenBy cone made

-- what a kind asks for beside: sections of sheets of names of one level each, a merge of all that
-- it is made of, and a file that its node reads in a network
abbrev pub Suits : Settings → Inputs Divided → Divided → Type 0
Suits (settings.File array unit) inputs made = IsGivenAnywhere made
Suits (settings.Contour count levels) inputs made = IsLeveledAt (fed_at 1 inputs)
Suits (settings.Cut a b c r) inputs made = IsLeveledAt (fed_at 1 inputs)
Suits settings.Merge inputs made = CanMerge (fed_at 1 inputs)
Suits _ inputs made = Unit {0}

-- of parts for what a node asks for, of what feeds it, the node makes a part for what it makes
abbrev pub PartsMadeAnswer : Type 0
PartsMadeAnswer =
    (s : Settings) (file : Option (List ℕ)) (inputs : Inputs Divided) (made : Divided)
    → IsMadeOf s file inputs made → Suits s inputs made
    → (request : Request) (parts : Inputs Part) (part : Part)
    → Fits (dataset_extent made.whole) request
    → AreAnswered inputs (asked s (extent_at_ports inputs) request) parts
    → MakesPart s file (extent_at_ports inputs) request parts part
    → IsPartFor made (widened s (dataset_extent made.whole) request) part

-- ---- what a node takes

-- a writer's requests go on to what feeds it
abbrev pub IsWriter : Settings → Type 0
IsWriter (settings.Writer binary digits version) = Unit {0}
IsWriter _ = ⊥

-- each sheet of a mesh fits
abbrev pub HasFitSheets : Dataset → Type 0
HasFitSheets (dataset.Image image) = Unit {0}
HasFitSheets (dataset.Mesh sheets) = All IsFit sheets

-- so it is of what feeds a port
abbrev pub IsFitAt : Option Divided → Type 0
IsFitAt (Some d) = HasFitSheets d.whole
IsFitAt None = Unit {0}

-- sections are made of sheets that fit
abbrev pub IsFitFor : Settings → Inputs Divided → Type 0
IsFitFor (settings.Contour count levels) inputs = IsFitAt (fed_at 1 inputs)
IsFitFor (settings.Cut a b c r) inputs = IsFitAt (fed_at 1 inputs)
IsFitFor _ inputs = Unit {0}

-- a node that isn't a writer takes the parts that it asks for, of what feeds it
abbrev pub PartsAskedAreTaken : Type 0
PartsAskedAreTaken =
    (s : Settings) (file : Option (List ℕ)) (inputs : Inputs Divided) (made : Divided)
    → (IsWriter s → ⊥) → IsMadeOf s file inputs made → IsFitFor s inputs
    → (request : Request) (parts : Inputs Part) → Fits (dataset_extent made.whole) request
    → AreAnswered inputs (asked s (extent_at_ports inputs) request) parts
    → TakesParts s (extent_at_ports inputs) request parts
