use Rattle.std.proofs.Common.{◌≡◌, ◌-◌}
use Rattle.viz_offset_cells.specs.Steps.{run_at}
use Rattle.viz_offset_cells.proofs.runs.run.Given as goal

-- what comes of the indices that are left is what comes of all
abbrev pub invariant-loop : goal.invariant-loop
invariant-loop l = run_at l.binary l.kind l.points (l.count - l.counter) l.numbers.items l.lexer ≡ run_at l.fn.binary l.fn.kind l.fn.points l.fn.count l.fn.numbers.items l.fn.lexer
