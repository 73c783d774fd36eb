-- Each node of a network has a file: a text, or the fault of what it gives or of its writing
-- (docs/FORMATS-OF-OUTPUT.md, "Written files" and "Written meshes").
use Rattle.std.specs.Prelude.{◌≡◌, ℕ, List, Some, Result}
use Rattle.viz_network.specs.History.{net_of}
use Rattle.viz_network.specs.Network.{Network, node_of}
use Rattle.viz_network.specs.declared.edit.Edit.{Edit}
use Rattle.viz_network.specs.declared.fault.Fault.{Fault}
use Rattle.viz_network.specs.declared.node.Node.{Node}
use Rattle.viz_node_total.specs.Files.{AllLoadBytes, NetHasBytes}
use Rattle.viz_scratch.specs.Written.{IsFileOf}

-- where files are of bytes, each node of a network has a text or a fault
abbrev pub FilesAreGiven : Type 0
FilesAreGiven =
    (net : Network) (id : ℕ) (n : Node) → NetHasBytes net → node_of net id ≡ Some n
    → (r : Result (List ℕ) Fault) × IsFileOf net id r

-- so each node of the network of a history, whatever its edits are
abbrev pub HistoriesHaveFiles : Type 0
HistoriesHaveFiles =
    (edits : List Edit) (id : ℕ) (n : Node) → AllLoadBytes edits
    → node_of (net_of edits) id ≡ Some n
    → (r : Result (List ℕ) Fault) × IsFileOf (net_of edits) id r
