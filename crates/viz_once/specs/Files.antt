-- The file that a command's filter makes of a file's bytes (docs/DEFINITIONS.md, "The fixed history
-- of one file").
use Rattle.std.specs.Prelude.{◌≡◌, ℕ, List, Some, Result, Ok, Err}
use Rattle.viz_network.specs.declared.fault.Fault.{Fault}
use Rattle.viz_network.specs.Network.{name_of}
use Rattle.viz_reshape.specs.declared.reshape.FileCounts.{FileCounts}
use Rattle.viz_reshape.specs.declared.reshape.FileCounts.TheVariants.{Cells, Strips}
use Rattle.viz_reshape.specs.Reshape.{IsReshaped}
use Rattle.viz_scratch.specs.Written.{IsFileOf, HasCounts}
use Rattle.viz_once.specs.declared.command.Filter.{Filter}
use Rattle.viz_once.specs.declared.command.Filter.TheVariants.{Node, Reshape}
use Rattle.viz_once.specs.declared.command.NodeFilter.{NodeFilter}
use Rattle.viz_once.specs.FixedHistory.{network_for, source_id, op_id, name_at}

-- ---- of a filter that is a node

-- this is the file of the filter's node in the network of the fixed history, or why it has none
abbrev pub IsNodeFile : NodeFilter → List ℕ → Result (List ℕ) Fault → Type 0
IsNodeFile filter bytes r = IsFileOf (network_for filter bytes) op_id r

-- this text is the file of the filter's node, which gives a dataset of so many cells and points
pub record IsNodeMade (filter : NodeFilter) (bytes text : List ℕ) (cells points : ℕ) : Type 0 where
  pub file : IsNodeFile filter bytes (Ok text)
  pub counts : HasCounts (network_for filter bytes) op_id cells points

-- ---- of every filter

-- this text is the file that a filter makes of the bytes, and these are its counts
abbrev pub IsMadeFor : Filter → List ℕ → List ℕ → FileCounts → Type 0
IsMadeFor (Node filter) bytes text (Cells cells points) = IsNodeMade filter bytes text cells points
IsMadeFor (Node filter) bytes text (Strips strips triangles points) = ⊥
IsMadeFor (Reshape reshape) bytes text counts =
    IsReshaped reshape source_id op_id bytes (Ok (record { text = text; counts = counts }))

-- this is the file that a filter makes of the bytes, or the fault for which it makes none
abbrev pub IsFileFor : Filter → List ℕ → Result (List ℕ) Fault → Type 0
IsFileFor (Node filter) bytes r = IsNodeFile filter bytes r
IsFileFor (Reshape reshape) bytes (Ok text) = (counts : FileCounts)
    × IsMadeFor (Reshape reshape) bytes text counts
IsFileFor (Reshape reshape) bytes (Err fault) =
    IsReshaped reshape source_id op_id bytes (Err fault)

-- the name of a node of a filter: one of the network, or one of two
abbrev pub IsNameFor : Filter → List ℕ → ℕ → List ℕ → Type 0
IsNameFor (Node filter) bytes id name = name_of (network_for filter bytes) id ≡ Some name
IsNameFor (Reshape reshape) bytes id name = name ≡ name_at id
