use Rattle.std.proofs.Common.{◌≡◌, ℕ, ◌+◌, ◌<◌, [], get_or, true}
use Rattle.std.specs.Cmp.Lexicographic.{slice_cmp}
use Rattle.std.specs.Ordering.{nat_cmp, is_lt}
use Rattle.viz_sheet.specs.Arrays.{names_in}
use Rattle.viz_sheet.proofs.rule.are_ascending.Given as goal

abbrev pub invariant-loop-rank : goal.invariant-loop-rank
invariant-loop-rank l = (k : ℕ) → k + 1 < l.rank → is_lt (slice_cmp nat_cmp (get_or (names_in l.leaves) k []) (get_or (names_in l.leaves) (k + 1) [])) ≡ true
