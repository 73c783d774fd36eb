use Rattle.std.proofs.Common.{◌≡◌, ◌+◌, drop}
use Rattle.viz_batches.specs.AppliesAll.{IsSoundBefore}
use Rattle.viz_network.specs.History.{net_after}
use Rattle.viz_replay.proofs.network.go_through.Given as goal

-- with the edits that are left, the network is what it is to be
abbrev pub invariant-loop-i : goal.invariant-loop-i
invariant-loop-i l = record {
  made : net_after (l.at + l.i) (drop l.i l.edits) l.net ≡ net_after l.at l.edits l.initial.net;
  sound : IsSoundBefore (l.at + l.i) l.net;
}
