-- What follows for audits (Doi and Koide 1991).
use Rattle.std.specs.Prelude.{◌≡◌, ℕ, ◌+◌, Bool, true, false, List, All, Option, None, Some}
use Rattle.std.specs.Prelude.{Result, Ok}
use Rattle.viz_sheet.specs.Sheet.{SheetData}
use Rattle.viz_dataset.specs.Images.{ImageData, IsImage}
use Rattle.viz_dataset.specs.declared.dataset.Dataset.TheVariants.{Image, Mesh}
use Rattle.viz_surface_law.specs.declared.audits.Counts.{Counts}
use Rattle.viz_surface_law.specs.Closed.{IsClosedUpToBoundary}
use Rattle.viz_surface_law.specs.Surfaces.{by_edges}
use Rattle.viz_kinds.specs.declared.settings.Settings.{Settings}
use Rattle.viz_kinds.specs.declared.settings.Settings.TheVariants.{Cut}
use Rattle.viz_network.specs.declared.fault.Fault.{Fault}
use Rattle.viz_network.specs.Network.{Network}
use Rattle.viz_network.specs.Cone.{Tree, cone_of}
use Rattle.viz_node_meaning.specs.Scratch.{IsScratch}
use Rattle.viz_account.specs.Audited.{IsFedFirst, StandsOn, IsAuditOf}

-- each side lies in two triangles or in one, and in one only on the boundary of the image's grid
pub record IsClosed (c : Counts) : Type 0 where
  pub sides : c.sides ≡ c.two + c.lone
  pub lone : c.lone ≡ c.border

-- whatever an audit counts is closed up to the boundary
abbrev pub AuditsAreClosed : Type 0
AuditsAreClosed = (net : Network) (id : ℕ) (c : Counts) → IsAuditOf net id (Ok c) → IsClosed c

-- each sheet that a contour on an image gives is closed up to the boundary by itself
abbrev pub SurfacesAreClosed : Type 0
SurfacesAreClosed =
    (net : Network) (id : ℕ) (image : ImageData) (sheets : List SheetData)
    → IsImage image → StandsOn (cone_of net id) image → IsScratch net id (Ok (Mesh sheets))
    → All (λ (s : SheetData). IsClosedUpToBoundary image.extent (by_edges s.cells)) sheets

-- whether a node is a plane cut
abbrev pub is_cut : Settings → Bool
is_cut (Cut a b c r) = true
is_cut s = false

-- the node at the foot of a cone is a plane cut, and what feeds its port gives this image
abbrev pub CutsImage : Option Tree → ImageData → Type 0
CutsImage None image = ⊥
CutsImage (Some t) image = (is_cut t.0.settings ≡ true) × IsFedFirst t.1 (Image image)

-- so is each sheet that a plane cut of an image gives, which no audit takes
abbrev pub CutSurfacesAreClosed : Type 0
CutSurfacesAreClosed =
    (net : Network) (id : ℕ) (image : ImageData) (sheets : List SheetData)
    → CutsImage (cone_of net id) image → IsScratch net id (Ok (Mesh sheets))
    → All (λ (s : SheetData). IsClosedUpToBoundary image.extent (by_edges s.cells)) sheets

-- a node has one audit, or one fault of it
abbrev pub AuditsAreOne : Type 0
AuditsAreOne = (net : Network) (id : ℕ) (a b : Result Counts Fault) → IsAuditOf net id a
    → IsAuditOf net id b → a ≡ b
