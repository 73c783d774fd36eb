-- What is true of a history stays true, and in its network (VTK User's Guide: modification times).
use Rattle.std.specs.Prelude.{◌≤◌, List, ◌++◌, length, Ok}
use Rattle.viz_parts.specs.declared.stored.Stored.{Stored}
use Rattle.viz_dataset.specs.declared.dataset.Dataset.{Dataset}
use Rattle.viz_network.specs.declared.edit.Edit.{Edit}
use Rattle.viz_network.specs.Cone.{cone_of}
use Rattle.viz_network.specs.History.{net_of}
use Rattle.viz_network.specs.Network.{Network}
use Rattle.viz_node_meaning.specs.Scratch.{IsScratch}
use Rattle.viz_kept.specs.True.{HasStamp, IsDatasetPart, IsTrueIn, IsTrueOf}
use Rattle.viz_kept.specs.True.{AreMadeIn, AreTrueIn, AreTrueOf}

-- what is true of a history is true of every longer one
abbrev pub TrueOfLonger : Type 0
TrueOfLonger = (edits more : List Edit) (items : List Stored) → AreTrueOf edits items
    → AreTrueOf (edits ++ more) items

-- what is made in the network of a prefix is true of the history
abbrev pub MadeIsTrue : Type 0
MadeIsTrue = (edits more : List Edit) (items : List Stored) → AreMadeIn (net_of edits) items
    → AreTrueOf (edits ++ more) items

-- what is true of a history is true in its network
abbrev pub TrueInNetwork : Type 0
TrueInNetwork = (edits : List Edit) (items : List Stored) → AreTrueOf edits items
    → AreTrueIn (net_of edits) items

-- what stands under an overtaken key is true, whatever the part is: a stamp that isn't past the
-- history and that the node doesn't have in its network never comes back
abbrev pub OvertakenIsTrue : Type 0
OvertakenIsTrue = (edits : List Edit) (item : Stored) → item.key.stamp ≤ length edits
    → (HasStamp (net_of edits) item.key → ⊥) → IsTrueOf edits item

-- a true part whose node has its stamp is a part of every dataset that the node gives
abbrev pub TruePartAnswers : Type 0
TruePartAnswers = (net : Network) (item : Stored) → IsTrueIn net item → HasStamp net item.key
    → (whole : Dataset) → IsScratch net item.key.node.0 (Ok whole)
    → IsDatasetPart (cone_of net item.key.node.0) whole item.key.request item.part

-- a true part whose node has its stamp is of a node that gives a dataset
abbrev pub TruePartIsGiven : Type 0
TruePartIsGiven = (net : Network) (item : Stored) → IsTrueIn net item → HasStamp net item.key
    → (whole : Dataset) × IsScratch net item.key.node.0 (Ok whole)
