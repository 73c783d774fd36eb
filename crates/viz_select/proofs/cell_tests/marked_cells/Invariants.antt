use Rattle.std.proofs.Common.{◌≡◌, map, take}
use Rattle.viz_sheet.specs.Arrays.{ranks_in}
use Rattle.viz_select.specs.Steps.{is_marked}
use Rattle.viz_select.proofs.cell_tests.marked_cells.Given as goal

abbrev pub invariant-loop-i : goal.invariant-loop-i
invariant-loop-i l = l.found.items ≡ map (is_marked l.all l.marks) (take l.i (ranks_in l.ranks))
