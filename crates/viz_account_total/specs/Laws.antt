-- Each node of a network has an audit: counts, or a fault (docs/FORMATS.md, "Report").
use Rattle.std.specs.Prelude.{◌≡◌, ℕ, List, Some, Result}
use Rattle.viz_account.specs.Audited.{IsAuditOf}
use Rattle.viz_network.specs.History.{net_of}
use Rattle.viz_network.specs.Network.{Network, node_of}
use Rattle.viz_network.specs.declared.edit.Edit.{Edit}
use Rattle.viz_network.specs.declared.fault.Fault.{Fault}
use Rattle.viz_network.specs.declared.node.Node.{Node}
use Rattle.viz_node_total.specs.Files.{AllLoadBytes, NetHasBytes}
use Rattle.viz_surface_law.specs.declared.audits.Counts.{Counts}

-- where files are of bytes, each node of a network has counts or a fault
abbrev pub AuditsAreGiven : Type 0
AuditsAreGiven =
    (net : Network) (id : ℕ) (n : Node) → NetHasBytes net → node_of net id ≡ Some n
    → (r : Result Counts Fault) × IsAuditOf net id r

-- so each node of the network of a history, whatever its edits are
abbrev pub HistoriesHaveAudits : Type 0
HistoriesHaveAudits =
    (edits : List Edit) (id : ℕ) (n : Node) → AllLoadBytes edits
    → node_of (net_of edits) id ≡ Some n
    → (r : Result Counts Fault) × IsAuditOf (net_of edits) id r
