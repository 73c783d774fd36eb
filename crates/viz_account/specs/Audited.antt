-- What an audit of a node counts: the sides of the surface that a contour makes of an image (Doi
-- and Koide 1991; docs/FORMATS.md, "Report").
use Rattle.std.specs.Prelude.{◌≡◌, ℕ, ◌+◌, ◌⊎◌, Bool, true, false, List, [], ◌∷◌, Option, None}
use Rattle.std.specs.Prelude.{Some, Result, Ok, Err}
use Rattle.viz_extent.specs.Extent.{Bounds}
use Rattle.viz_sheet.specs.Sheet.{SheetData}
use Rattle.viz_dataset.specs.Images.{ImageData, IsImage}
use Rattle.viz_dataset.specs.declared.dataset.Dataset.{Dataset}
use Rattle.viz_dataset.specs.declared.dataset.Dataset.TheVariants.{Image, Mesh}
use Rattle.viz_grid_section.specs.Edges.{Edge}
use Rattle.viz_surface_law.specs.declared.audits.Counts.{Counts}
use Rattle.viz_surface_law.specs.Surfaces.{by_edges}
use Rattle.viz_surface_law.specs.Audit.{count_sides, count_two, count_lone, count_border}
use Rattle.viz_kinds.specs.declared.settings.Settings.{Settings}
use Rattle.viz_kinds.specs.declared.settings.Settings.TheVariants.{Contour}
use Rattle.viz_network.specs.declared.fault.Cause.TheVariants.{WrongInput}
use Rattle.viz_network.specs.declared.fault.Fault.{Fault}
use Rattle.viz_network.specs.Network.{Network}
use Rattle.viz_network.specs.Cone.{Cone, Tree, fed, cone_of}
use Rattle.viz_node_meaning.specs.Scratch.{IsScratchOf, IsScratch}

-- ---- where a surface stands

-- whether a node is a contour
abbrev pub is_contour : Settings → Bool
is_contour (Contour count levels) = true
is_contour s = false

-- what feeds the first of these ports gives this dataset
abbrev pub IsFedFirst : Cone → Dataset → Type 0
IsFedFirst (fed n own others) d = IsScratchOf (Some (n, own)) (Ok d)
IsFedFirst ports d = ⊥

-- the node at the foot of a cone is a contour, and what feeds its port gives this image
abbrev pub StandsOn : Option Tree → ImageData → Type 0
StandsOn None image = ⊥
StandsOn (Some t) image = (is_contour t.0.settings ≡ true) × IsFedFirst t.1 (Image image)

-- ---- what is counted

-- a number of triangles by their sides, summed over sheets
abbrev pub summed : (List (List Edge) → ℕ) → List SheetData → ℕ
summed count [] = 0
summed count (s ∷ sheets) = count (by_edges s.cells) + summed count sheets

-- the counts of all sheets, each by itself, in a grid of these bounds
pub record AreSums (whole : Bounds) (sheets : List SheetData) (c : Counts) : Type 0 where
  pub sides : c.sides ≡ summed count_sides sheets
  pub two : c.two ≡ summed count_two sheets
  pub lone : c.lone ≡ summed count_lone sheets
  pub border : c.border ≡ summed (count_border whole) sheets

-- ---- the audit of a node

-- a node is a contour that stands on an image, and the numbers are those of the sheets that it
-- gives
pub record IsAudited (net : Network) (id : ℕ) (c : Counts) : Type 0 where
  pub image : ImageData
  pub sheets : List SheetData
  pub valid : IsImage image
  pub stands : StandsOn (cone_of net id) image
  pub given : IsScratch net id (Ok (Mesh sheets))
  pub sums : AreSums image.extent sheets c

-- a node gives a dataset, but is no contour that stands on an image: its fault is that of a first
-- port fed with what isn't taken
pub record HasNoSurface (net : Network) (id : ℕ) (fault : Fault) : Type 0 where
  pub dataset : Dataset
  pub given : IsScratch net id (Ok dataset)
  pub stands : (image : ImageData) → StandsOn (cone_of net id) image → ⊥
  pub node : fault.node.0 ≡ id
  pub cause : fault.cause ≡ WrongInput 1

-- the audit of a node: its counts; or the fault of what it gives; or that it has no surface
abbrev pub IsAuditOf : Network → ℕ → Result Counts Fault → Type 0
IsAuditOf net id (Ok c) = IsAudited net id c
IsAuditOf net id (Err fault) = IsScratch net id (Err fault) ⊎ HasNoSurface net id fault
