-- Each node of a network gives something: information and a dataset, or a fault (VTK User's Guide,
-- "The visualization pipeline"; docs/FORMATS-OF-FILTERS.md, "What a node gives").
use Rattle.std.specs.Prelude.{◌≡◌, ℕ, List, Some, Result, Ok}
use Rattle.viz_dataset.specs.declared.dataset.Dataset.{Dataset}
use Rattle.viz_network.specs.Cone.{Tree, cone_of}
use Rattle.viz_network.specs.History.{net_of}
use Rattle.viz_network.specs.Network.{Network, node_of}
use Rattle.viz_network.specs.declared.edit.Edit.{Edit}
use Rattle.viz_network.specs.declared.fault.Fault.{Fault}
use Rattle.viz_network.specs.declared.node.Node.{Node}
use Rattle.viz_node_meaning.specs.Fold.{IsGiven}
use Rattle.viz_node_meaning.specs.Information.{InformationRule}
use Rattle.viz_node_meaning.specs.Scratch.{IsScratch, IsScratchOf}
use Rattle.viz_node_meaning.specs.declared.information.Information.{Information}
use Rattle.viz_node_total.specs.Files.{AllLoadBytes, HasBytes, IsValid, NetHasBytes, OfTree}

-- ---- information

-- a node with all upstream of it has information, or a first fault
abbrev pub ConesInform : Type 0
ConesInform = (t : Tree) → (i : Result Information Fault) × IsGiven InformationRule (Some t) i

-- so each node of a network
abbrev pub NodesInform : Type 0
NodesInform =
    (net : Network) (id : ℕ) (n : Node) → node_of net id ≡ Some n
    → (i : Result Information Fault) × IsGiven InformationRule (cone_of net id) i

-- ---- datasets

-- where files are of bytes, a node with all upstream of it gives a dataset, or a first fault
abbrev pub ConesGive : Type 0
ConesGive = (t : Tree) → OfTree HasBytes t → (r : Result Dataset Fault) × IsScratchOf (Some t) r

-- so each node of a network
abbrev pub NodesGive : Type 0
NodesGive =
    (net : Network) (id : ℕ) (n : Node) → NetHasBytes net → node_of net id ≡ Some n
    → (r : Result Dataset Fault) × IsScratch net id r

-- and each node of the network of a history, whatever its edits are
abbrev pub HistoriesGive : Type 0
HistoriesGive =
    (edits : List Edit) (id : ℕ) (n : Node) → AllLoadBytes edits
    → node_of (net_of edits) id ≡ Some n
    → (r : Result Dataset Fault) × IsScratch (net_of edits) id r

-- ---- what keeps

-- an image that is given has numbers of its type for all its points
abbrev pub GivenAreValid : Type 0
GivenAreValid =
    (t : Tree) (d : Dataset) → OfTree HasBytes t → IsScratchOf (Some t) (Ok d) → IsValid d

-- files of bytes are loaded, and all files of the network are
abbrev pub HistoriesHaveBytes : Type 0
HistoriesHaveBytes = (edits : List Edit) → AllLoadBytes edits → NetHasBytes (net_of edits)

-- where all files of a network are of bytes, those upstream of a node are
abbrev pub ConesHaveBytes : Type 0
ConesHaveBytes =
    (net : Network) (id : ℕ) (t : Tree) → NetHasBytes net → cone_of net id ≡ Some t
    → OfTree HasBytes t
