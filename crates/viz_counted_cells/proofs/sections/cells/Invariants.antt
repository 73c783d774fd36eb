use Rattle.std.proofs.Common.{◌≡◌, ◌-◌}
use Rattle.viz_counted_cells.specs.Steps.{cells_at}
use Rattle.viz_counted_cells.proofs.sections.cells.Given as goal

-- what comes of the cells that are left is what comes of all
abbrev pub invariant-loop-i : goal.invariant-loop-i
invariant-loop-i l = cells_at l.binary l.points l.size (l.count - l.i) l.numbers.items l.lexer ≡ cells_at l.fn.binary l.fn.points l.fn.size l.fn.count l.fn.numbers.items l.fn.lexer
