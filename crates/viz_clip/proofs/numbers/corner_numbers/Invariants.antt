use Rattle.std.proofs.Common.{◌≡◌, map}
use Rattle.std.specs.List.{range_with_len}
use Rattle.viz_sheet.specs.Kept.{kept_rank}
use Rattle.viz_clip.proofs.numbers.corner_numbers.Given as goal

abbrev pub invariant-loop-is_inside : goal.invariant-loop-is_inside
invariant-loop-is_inside l = record {
  list : l.numbers.items ≡ map (kept_rank l.inside) (range_with_len 0 l.is_inside-index);
  count : l.count ≡ kept_rank l.inside l.is_inside-index;
}
