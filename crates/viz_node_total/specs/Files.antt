-- Files of bytes, upstream of a node, in a network and in a history (docs/FORMATS-OF-FILES.md,
-- "Reading"; docs/DEFINITIONS.md, "Networks").
use Rattle.std.specs.Prelude.{ℕ, List, Option, None, Some}
use Rattle.std.specs.List.{AllByRecursion}
use Rattle.viz_column.specs.Bytes.{AreBytes}
use Rattle.viz_dataset.specs.Images.{IsImage}
use Rattle.viz_dataset.specs.declared.dataset.Dataset.{Dataset}
use Rattle.viz_dataset.specs.declared.dataset.Dataset.TheVariants.{Image, Mesh}
use Rattle.viz_network.specs.Cone.{Cone, Tree, none, empty, fed}
use Rattle.viz_network.specs.Network.{Network}
use Rattle.viz_network.specs.declared.edit.Edit.{Edit}
use Rattle.viz_network.specs.declared.edit.Edit.TheVariants.{Load}
use Rattle.viz_network.specs.declared.node.Node.{Node}

-- an image has numbers of its type for all its points
abbrev pub IsValid : Dataset → Type 0
IsValid (Image image) = IsImage image
IsValid (Mesh sheets) = Unit {0}

-- there is no file, or one of bytes
abbrev pub IsOfBytes : Option (List ℕ) → Type 0
IsOfBytes None = Unit {0}
IsOfBytes (Some bytes) = AreBytes bytes

-- a node has no file, or one of bytes
abbrev pub HasBytes : Node → Type 0
HasBytes n = IsOfBytes n.file

-- it holds of each node at ports, and of all upstream of them
abbrev pub OfCone : (Node → Type 0) → Cone → Type 0
OfCone P none = Unit {0}
OfCone P (empty others) = OfCone P others
OfCone P (fed n own others) = P n × OfCone P own × OfCone P others

-- it holds of a node and of all upstream of it
abbrev pub OfTree : (Node → Type 0) → Tree → Type 0
OfTree P t = P t.0 × OfCone P t.1

-- so has each node of a network
pub record NetHasBytes (net : Network) : Type 0 where
  pub each : AllByRecursion (λ n. HasBytes n.1) net

-- what an edit loads is bytes
abbrev pub LoadsBytes : Edit → Type 0
LoadsBytes (Load name bytes) = AreBytes bytes
LoadsBytes edit = Unit {0}

-- so what each edit of a history loads
pub record AllLoadBytes (edits : List Edit) : Type 0 where
  pub each : AllByRecursion LoadsBytes edits
