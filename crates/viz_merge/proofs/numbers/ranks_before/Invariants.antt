use Rattle.std.proofs.Common.{◌≡◌, map}
use Rattle.std.specs.List.{range_with_len}
use Rattle.viz_sheet.specs.Kept.{kept_rank}
use Rattle.viz_merge.proofs.numbers.ranks_before.Given as goal

abbrev pub invariant-loop-mark : goal.invariant-loop-mark
invariant-loop-mark l = record { list : l.ranks.items ≡ map (kept_rank l.marks) (range_with_len 0 l.mark-index); count : l.count ≡ kept_rank l.marks l.mark-index }
