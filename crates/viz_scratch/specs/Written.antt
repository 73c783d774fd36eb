-- The written file of a node: the text of what it gives from scratch (docs/FORMATS-OF-OUTPUT.md,
-- "Written files" and "Written meshes").
use Rattle.std.specs.Prelude.{◌≡◌, ℕ, Bool, false, List, Option, None, Some, Result, Ok, Err}
use Rattle.viz_dataset.specs.Images.{IsOrigin, corner}
use Rattle.viz_dataset.specs.declared.dataset.Dataset.{Dataset}
use Rattle.viz_dataset.specs.declared.dataset.Dataset.TheVariants.{Image, Mesh}
use Rattle.viz_kinds.specs.declared.settings.Settings.{Settings}
use Rattle.viz_kinds.specs.declared.settings.Settings.TheVariants as settings
use Rattle.viz_base.specs.declared.node.NodeId.{NodeId}
use Rattle.viz_image_write.specs.declared.stop.WriteStop.{WriteStop}
use Rattle.viz_image_write.specs.declared.stop.WriteStop.TheVariants as write
use Rattle.viz_image_write.specs.declared.style.Style.{Style as Writers}
use Rattle.viz_image_write.specs.ImageText.{image_text}
use Rattle.viz_image_write.specs.Version.{is_later}
use Rattle.viz_mesh_write.specs.Counts.{cells_written, points_written}
use Rattle.viz_mesh_write.specs.Fits.{FitCounts, FitNumbers}
use Rattle.viz_mesh_write.specs.MeshText.{mesh_text}
use Rattle.viz_network.specs.declared.node.Node.{Node}
use Rattle.viz_network.specs.declared.fault.Cause.{Cause}
use Rattle.viz_network.specs.declared.fault.Cause.TheVariants.{TooMany, TooWide}
use Rattle.viz_network.specs.declared.fault.Fault.{Fault}
use Rattle.viz_network.specs.declared.fault.Stop.{Stop}
use Rattle.viz_network.specs.declared.fault.Stop.TheVariants as stop
use Rattle.viz_network.specs.Cone.{Tree, cone_of}
use Rattle.viz_network.specs.Network.{Network}
use Rattle.viz_node_meaning.specs.Information.{within}
use Rattle.viz_node_meaning.specs.Scratch.{IsScratch}

-- whether the file is one of version 5.1, whether numbers are written in binary, and at how many
-- decimal places coordinates of meshes are
pub record Style : Type 0 where
  pub later : Bool
  pub binary : Bool
  pub digits : ℕ

-- words at three places, in a file of version 3.0
abbrev pub plain : Style
plain = record { later = false; binary = false; digits = 3 }

-- the style of a writer; all else is written plainly
abbrev pub style_with : Settings → Style
style_with (settings.Writer binary digits version) = record {
  later = is_later version;
  binary = binary;
  digits = within 0 9 digits;
}
style_with _ = plain

-- the text of a dataset
abbrev pub text_with : Style → Dataset → List ℕ
text_with style (Image i) = image_text style.later style.binary i
text_with style (Mesh sheets) = mesh_text style.later style.binary style.digits sheets

-- the text hasn't too many points or cells: that of an image never has
abbrev pub HasFewCounts : Dataset → Type 0
HasFewCounts (Image i) = Unit {0}
HasFewCounts (Mesh sheets) = FitCounts sheets

-- the numbers of the text fit: those of an image where its lowest corner lies within the limits of
-- an origin
abbrev pub HasFitNumbers : Style → Dataset → Type 0
HasFitNumbers style (Image i) = IsOrigin (corner i)
HasFitNumbers style (Mesh sheets) = FitNumbers style.digits sheets

-- why a dataset has no text
abbrev pub IsUnwritten : Style → Dataset → Cause → Type 0
IsUnwritten style d TooMany = HasFewCounts d → ⊥
IsUnwritten style d TooWide = HasFewCounts d × (HasFitNumbers style d → ⊥)
IsUnwritten style d _ = ⊥

-- the text of a node's dataset, or why it has none
abbrev pub IsTextOf : Style → ℕ → Dataset → Result (List ℕ) Fault → Type 0
IsTextOf style id d (Ok text) = HasFewCounts d × HasFitNumbers style d × (text ≡ text_with style d)
IsTextOf style id d (Err fault) = (fault.node.0 ≡ id) × IsUnwritten style d fault.cause

-- the text of what a node gives, or the fault
abbrev pub IsTextBehind : Style → ℕ → Result Dataset Fault → Result (List ℕ) Fault → Type 0
IsTextBehind style id (Err fault) r = r ≡ Err fault
IsTextBehind style id (Ok d) r = IsTextOf style id d r

-- the style of the node at the foot of a cone
abbrev pub style_of : Option Tree → Style
style_of None = plain
style_of (Some t) = style_with t.0.settings

-- the file of a node: the text of its dataset, or the fault of it or of its writing
abbrev pub IsFileOf : Network → ℕ → Result (List ℕ) Fault → Type 0
IsFileOf net id r = (s : Result Dataset Fault) × IsScratch net id s
    × IsTextBehind (style_of (cone_of net id)) id s r

-- a node gives a dataset of so many cells and points
pub record HasCounts (net : Network) (id cells points : ℕ) : Type 0 where
  pub dataset : Dataset
  pub given : IsScratch net id (Ok dataset)
  pub cells_are : cells ≡ cells_written dataset
  pub points_are : points ≡ points_written dataset

-- a style of the writers
abbrev pub style_seen : Writers → Style
style_seen s = record {
  later = is_later s.version;
  binary = s.binary;
  digits = s.digits;
}

-- a stop of the writing at a node
abbrev pub of_write : NodeId → WriteStop → Stop
of_write node write.TooMany = stop.Fault (record { node = node; cause = TooMany })
of_write node write.TooWide = stop.Fault (record { node = node; cause = TooWide })
of_write node write.Memory = stop.Memory
