use Rattle.std.proofs.Common.{◌≡◌, ◌-◌, ◌++◌, length}
use Rattle.viz_make.specs.Volume.{values_behind}
use Rattle.viz_make.proofs.volume.values_behind.Given as goal

-- the values so far, and those that follow the number that was reached
abbrev pub invariant-loop : goal.invariant-loop
invariant-loop l = record {
  value : l.values.items ++ values_behind l.r (l.count - l.counter) ≡ values_behind l.fn.number l.fn.count;
  count : length l.values.items ≡ l.counter;
}
