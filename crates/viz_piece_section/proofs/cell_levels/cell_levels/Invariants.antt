use Rattle.std.proofs.Common.{◌≡◌, map, take}
use Rattle.viz_piece_section.specs.Steps.Leaves.{cell_level}
use Rattle.viz_piece_section.proofs.cell_levels.cell_levels.Given as goal

abbrev pub invariant-loop-i : goal.invariant-loop-i
invariant-loop-i l = l.levels.items ≡ map (cell_level l.own.first l.own.next l.whole) (take l.i l.sheet.cells)
