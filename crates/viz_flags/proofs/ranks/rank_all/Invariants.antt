use Rattle.std.proofs.Common.{◌≡◌, map}
use Rattle.viz_flags.specs.Flags.{flags as bits_of}
use Rattle.viz_sheet.specs.Kept.{kept_rank}
use Rattle.viz_flags.proofs.ChangedLemmas.{changed}
use Rattle.viz_flags.proofs.ranks.rank_all.Given as goal

abbrev pub invariant-loop-i : goal.invariant-loop-i
invariant-loop-i l = l.triangles ≡ changed (λ cell. map (kept_rank (bits_of l.flags)) cell) l.initial.triangles l.i
