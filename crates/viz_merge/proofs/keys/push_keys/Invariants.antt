use Rattle.std.proofs.Common.{◌≡◌, ◌+◌, ◌++◌, length, take}
use Rattle.viz_sheet.specs.Arrays.{points_in}
use Rattle.viz_merge.specs.Steps.Leads.{keys_from}
use Rattle.viz_merge.proofs.keys.push_keys.Given as goal

abbrev pub invariant-loop-rank : goal.invariant-loop-rank
invariant-loop-rank l = record {
  made : l.keys.items ≡ l.fn.keys.items ++ keys_from (length l.fn.keys.items) (take l.rank (points_in l.places));
  size : length l.keys.items ≡ length l.fn.keys.items + l.rank;
}
