-- When a kept part is true, in a network and of a history (VTK User's Guide: modification times).
use Rattle.std.specs.Prelude.{◌≡◌, List, ◌++◌, Option, Some, Ok}
use Rattle.std.specs.List.{All}
use Rattle.viz_parts.specs.declared.stored.Key.{Key}
use Rattle.viz_parts.specs.declared.stored.Stored.{Stored}
use Rattle.viz_dataset.specs.declared.dataset.Dataset.{Dataset}
use Rattle.viz_network.specs.declared.edit.Edit.{Edit}
use Rattle.viz_network.specs.Cone.{Tree, cone_of, stamp_of}
use Rattle.viz_network.specs.History.{net_of}
use Rattle.viz_network.specs.Network.{Network}
use Rattle.viz_parts.specs.declared.request.Part.{Part}
use Rattle.viz_parts.specs.declared.request.Request.{Request}
use Rattle.viz_parts.specs.Pieces.{Division, IsAnswer}
use Rattle.viz_node_division.specs.Divided.{IsDivided}
use Rattle.viz_node_meaning.specs.Scratch.{IsScratchOf}

-- a part answers a request of a dataset of the node at the foot of a cone, as that is shared out
pub record IsDatasetPart (cone : Option Tree) (whole : Dataset) (request : Request) (part : Part)
    : Type 0 where
  pub division : Division
  pub divided : IsDivided cone whole division
  pub answers : IsAnswer whole division request part

-- a part answers a request of the dataset that the node at the foot of a cone gives from scratch
pub record IsNodePart (cone : Option Tree) (request : Request) (part : Part) : Type 0 where
  pub whole : Dataset
  pub given : IsScratchOf cone (Ok whole)
  pub one : IsDatasetPart cone whole request part

-- the node of a key is in the network, and has the key's stamp there
abbrev pub HasStamp : Network → Key → Type 0
HasStamp net key = stamp_of net key.node.0 ≡ Some key.stamp

-- a kept part answers its request of what its node gives in the network
abbrev pub IsPartIn : Network → Stored → Type 0
IsPartIn net item = IsNodePart (cone_of net item.key.node.0) item.key.request item.part

-- its node has its stamp in the network, and gives the part
pub record IsMadeIn (net : Network) (item : Stored) : Type 0 where
  pub stamp : HasStamp net item.key
  pub part : IsPartIn net item

-- where its node has its stamp in the network, it gives the part
pub record IsTrueIn (net : Network) (item : Stored) : Type 0 where
  pub part : HasStamp net item.key → IsPartIn net item

-- it is true in the network of the history, and in that of every longer one
pub record IsTrueOf (edits : List Edit) (item : Stored) : Type 0 where
  pub each : (more : List Edit) → IsTrueIn (net_of (edits ++ more)) item

-- each is made in the network
pub record AreMadeIn (net : Network) (items : List Stored) : Type 0 where
  pub each : All (IsMadeIn net) items

-- each is true in the network
pub record AreTrueIn (net : Network) (items : List Stored) : Type 0 where
  pub each : All (IsTrueIn net) items

-- each is true of the history
pub record AreTrueOf (edits : List Edit) (items : List Stored) : Type 0 where
  pub each : All (IsTrueOf edits) items
