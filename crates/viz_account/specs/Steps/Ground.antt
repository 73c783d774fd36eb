-- Where a node stands, and counts added up. Only private contracts and proofs speak of it.
use Rattle.std.specs.Prelude.{◌≡◌, ℕ, ◌+◌, List, Option, None, Some, Ok}
use Rattle.viz_base.specs.declared.node.NodeId.{NodeId}
use Rattle.viz_extent.specs.Extent.{Bounds}
use Rattle.viz_dataset.specs.Images.{ImageData, IsImage}
use Rattle.viz_dataset.specs.declared.dataset.Dataset.TheVariants.{Image}
use Rattle.viz_surface_law.specs.declared.audits.Counts.{Counts}
use Rattle.viz_network.specs.declared.fault.Cause.TheVariants.{WrongInput}
use Rattle.viz_network.specs.declared.fault.Stop.{Stop}
use Rattle.viz_network.specs.declared.fault.Stop.TheVariants.{Fault}
use Rattle.viz_network.specs.Network.{Network}
use Rattle.viz_network.specs.Cone.{cone_of}
use Rattle.viz_node_meaning.specs.Scratch.{Answers, IsScratch}
use Rattle.viz_parts.specs.declared.stored.Stored.{Stored}
use Rattle.viz_account.specs.Audited.{IsAuditOf, StandsOn}
use Rattle.viz_account.specs.declared.surface.Counted.{Counted}
use Rattle.viz_account.specs.Steps.Made.{HasParts}

-- the node gives an image of this extent, or no image
abbrev pub GivesImage : Network → ℕ → Option Bounds → Type 0
GivesImage net id (Some whole) = (image : ImageData) × IsImage image
    × IsScratch net id (Ok (Image image)) × (whole ≡ image.extent)
GivesImage net id None = (image : ImageData) → IsScratch net id (Ok (Image image)) → ⊥

-- the node stands on an image of this extent, or on none
abbrev pub IsGround : Network → ℕ → Option Bounds → Type 0
IsGround net id (Some whole) = (image : ImageData) × IsImage image
    × StandsOn (cone_of net id) image × (whole ≡ image.extent)
IsGround net id None = (image : ImageData) → StandsOn (cone_of net id) image → ⊥

-- the numbers of both together
pub record IsAdded (a b c : Counts) : Type 0 where
  pub sides : c.sides ≡ a.sides + b.sides
  pub two : c.two ≡ a.two + b.two
  pub lone : c.lone ≡ a.lone + b.lone
  pub border : c.border ≡ a.border + b.border

-- the fault of a node that has no surface, as a stop
abbrev pub no_surface : NodeId → Stop
no_surface node = Fault (record { node = node; cause = WrongInput 1 })

-- ---- by a plan

-- an audit of a node, by its plan from what is kept and in so many pieces
pub record IsCounted (net : Network) (entries : List Stored) (pieces id : ℕ) (c : Counted)
    : Type 0 where
  pub counts : Answers (IsAuditOf net id) c.counts
  pub parts : HasParts net entries pieces id c.counts c.parts
