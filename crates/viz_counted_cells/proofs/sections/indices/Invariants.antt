use Rattle.std.proofs.Common.{◌≡◌, ◌-◌}
use Rattle.viz_counted_cells.specs.Steps.{indices_at}
use Rattle.viz_counted_cells.proofs.sections.indices.Given as goal

-- what comes of the indices that are left is what comes of all
abbrev pub invariant-loop : goal.invariant-loop
invariant-loop l = indices_at l.binary l.points (l.count - l.counter) l.numbers.items l.lexer ≡ indices_at l.fn.binary l.fn.points l.fn.count l.fn.numbers.items l.fn.lexer
