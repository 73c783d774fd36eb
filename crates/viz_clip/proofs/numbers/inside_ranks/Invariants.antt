use Rattle.std.proofs.Common.{◌≡◌, length, take}
use Rattle.std.specs.List.{range_with_len}
use Rattle.viz_sheet.specs.Kept.{kept}
use Rattle.viz_clip.proofs.numbers.inside_ranks.Given as goal

abbrev pub invariant-loop-rank : goal.invariant-loop-rank
invariant-loop-rank l = l.ranks.items ≡ kept (take l.rank l.inside) (take l.rank (range_with_len 0 (length l.inside)))
