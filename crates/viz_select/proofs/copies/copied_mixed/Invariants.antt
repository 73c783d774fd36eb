use Rattle.std.proofs.Common.{◌≡◌, take}
use Rattle.viz_select.proofs.copies.copied_mixed.Given as goal

abbrev pub invariant-loop-cell : goal.invariant-loop-cell
invariant-loop-cell l = l.copies.items ≡ take l.cell-index l.cells
