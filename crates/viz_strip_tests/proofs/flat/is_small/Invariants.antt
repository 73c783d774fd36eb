use Rattle.std.proofs.Common.{◌<◌, ◌≤◌, ℕ, [], get_or, length}
use Rattle.viz_strip_tests.proofs.flat.is_small.Given as goal

abbrev pub invariant-loop-i : goal.invariant-loop-i
invariant-loop-i l = (k : ℕ) → k < l.i → length (get_or l.sheet.cells k []) ≤ 3
