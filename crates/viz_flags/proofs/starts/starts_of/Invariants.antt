use Rattle.std.proofs.Common.{◌≡◌, ◌*◌, map}
use Rattle.std.specs.List.{range_with_len}
use Rattle.viz_flags.specs.Flags.{flags as bits_of}
use Rattle.viz_sheet.specs.Kept.{kept_rank}
use Rattle.viz_flags.proofs.starts.starts_of.Given as goal

abbrev pub invariant-loop-mask : goal.invariant-loop-mask
invariant-loop-mask l = record {
  list : l.before.items ≡ map (λ i. kept_rank (bits_of l.flags) (8 * i)) (range_with_len 0 l.mask-index);
  count : l.count ≡ kept_rank (bits_of l.flags) (8 * l.mask-index);
}
