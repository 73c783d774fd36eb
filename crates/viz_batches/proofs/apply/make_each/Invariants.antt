use Rattle.std.proofs.Common.{◌≡◌, ◌+◌, drop}
use Rattle.viz_batches.specs.Batches.{apply_from, apply_all}
use Rattle.viz_batches.specs.AppliesAll.{IsSoundBefore}
use Rattle.viz_batches.proofs.apply.make_each.Given as goal

-- with the edits that are left, the network is what it is to be
abbrev pub invariant-loop-i : goal.invariant-loop-i
invariant-loop-i l = record {
  made : apply_from (l.i + 1) (l.at + l.i) (drop l.i l.edits) l.net ≡ apply_all l.at l.edits l.initial.net;
  sound : IsSoundBefore (l.at + l.i) l.net;
}
