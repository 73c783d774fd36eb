use Rattle.std.proofs.Common.{◌≤◌, length, take}
use Rattle.std.specs.List.{All}
use Rattle.viz_reshape.proofs.strips.has_small_cells.Given as goal

abbrev pub invariant-loop-i : goal.invariant-loop-i
invariant-loop-i l = All (λ cell. length cell ≤ 3) (take l.i l.sheet.cells)
