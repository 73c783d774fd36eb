use Rattle.std.proofs.Common.{◌≡◌}
use Rattle.viz_piece_stitch.specs.Steps.Columns.{sheets_at}
use Rattle.viz_piece_stitch.proofs.shared_sheet.parts_of.Given as goal

abbrev pub invariant-loop-piece : goal.invariant-loop-piece
invariant-loop-piece l = l.parts.items ≡ sheets_at l.sheet l.yielded
