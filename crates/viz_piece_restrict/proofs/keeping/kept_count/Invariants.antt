use Rattle.std.proofs.Common.{◌≡◌}
use Rattle.viz_sheet.specs.Kept.{kept_rank}
use Rattle.viz_piece_restrict.proofs.keeping.kept_count.Given as goal

abbrev pub invariant-loop-mark : goal.invariant-loop-mark
invariant-loop-mark l = l.count ≡ kept_rank l.marks l.mark-index
