use Rattle.std.proofs.Common.{◌≡◌, ◌-◌, length}
use Rattle.viz_history.specs.Steps.Walk.{HasPassed}
use Rattle.viz_history.proofs.publishing.give_overtaken_up.Given as goal

-- as many entries as there were turns were passed over
abbrev pub invariant-loop : goal.invariant-loop
invariant-loop l = record {
  passed : HasPassed l.stamps l.at (length l.initial.cache.entries - l.counter) l.initial.cache.entries l.cache.entries;
  capacity : l.cache.capacity ≡ l.initial.cache.capacity;
}
