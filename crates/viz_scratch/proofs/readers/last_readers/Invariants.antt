use Rattle.std.proofs.Common.{◌≡◌, ◌≤◌, length, get_or}
use Rattle.viz_scratch.specs.Steps.Readers.{AreReadersFrom}
use Rattle.viz_scratch.proofs.readers.last_readers.Given as goal

-- the steps from k on have their readers
abbrev pub invariant-loop-k : goal.invariant-loop-k
invariant-loop-k l = record {
  within : l.k ≤ length l.steps;
  count : length l.last.items ≡ length l.steps;
  sink : length l.steps ≤ get_or l.last.items l.sink 0;
  readers : AreReadersFrom l.k l.steps l.last.items;
}

abbrev pub decreases-loop-k : goal.decreases-loop-k
decreases-loop-k l = l.k
