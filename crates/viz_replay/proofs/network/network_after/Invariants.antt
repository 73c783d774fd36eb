use Rattle.std.proofs.Common.{◌≡◌, length, take}
use Rattle.viz_journal.specs.Entries.{edits_of}
use Rattle.viz_network.specs.History.{net_of}
use Rattle.viz_replay.proofs.network.network_after.Given as goal

-- the network is that of the entries so far, and their edits are counted
abbrev pub invariant-loop-entry : goal.invariant-loop-entry
invariant-loop-entry l = record {
  net : l.net ≡ net_of (edits_of (take l.entry-index l.entries));
  before : l.before ≡ length (edits_of (take l.entry-index l.entries));
}
