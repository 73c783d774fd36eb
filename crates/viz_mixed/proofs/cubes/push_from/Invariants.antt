use Rattle.std.proofs.Common.{◌≡◌, ◌+◌, ◌-◌, ◌++◌, ◌≤◌, map}
use Rattle.std.specs.List.{range_with_len}
use Rattle.viz_mixed.specs.Mixed.{mixed_from}
use Rattle.viz_mixed.proofs.cubes.push_from.Given as goal

abbrev pub invariant-loop-at : goal.invariant-loop-at
invariant-loop-at l = record {
  within : l.at ≤ l.across;
  made : l.out ≡ l.initial.out ++ map (λ i. mixed_from l.flags l.row l.plane (l.first + i)) (range_with_len 0 l.at);
}

abbrev pub decreases-loop-at : goal.decreases-loop-at
decreases-loop-at l = l.across - l.at
