use Rattle.std.proofs.Common.{◌≡◌, take}
use Rattle.viz_sheet.specs.Kept.{kept}
use Rattle.viz_piece_restrict.proofs.keeping.kept_mixed.Given as goal

abbrev pub invariant-loop-i : goal.invariant-loop-i
invariant-loop-i l = l.left.items ≡ kept (take l.i l.keeps) (take l.i l.cells)
