use Rattle.std.proofs.Common.{◌≡◌, map, take}
use Rattle.viz_flags.specs.Flags.{flags as bits_of}
use Rattle.viz_sheet.specs.Kept.{kept_rank}
use Rattle.viz_flags.proofs.ranks.ranks_of.Given as goal

abbrev pub invariant-loop-numbers : goal.invariant-loop-numbers
invariant-loop-numbers l = l.ranks.items ≡ map (λ cell. map (kept_rank (bits_of l.flags)) cell) (take l.numbers-index l.triangles)
