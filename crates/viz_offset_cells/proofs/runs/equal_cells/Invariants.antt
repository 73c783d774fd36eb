use Rattle.std.proofs.Common.{◌≡◌, ◌+◌, ◌*◌, ◌-◌}
use Rattle.viz_offset_cells.specs.Steps.{runs_at}
use Rattle.viz_offset_cells.specs.Blocks.{steps_from}
use Rattle.viz_offset_cells.proofs.runs.equal_cells.Given as goal

-- what comes of the cells that are left is what comes of all
abbrev pub invariant-loop : goal.invariant-loop
invariant-loop l =
    runs_at l.binary l.kind l.points (l.step * l.counter) (steps_from (l.step * l.counter + l.step) l.step (l.count - l.counter)) l.numbers.items l.lexer
    ≡ runs_at l.fn.binary l.fn.kind l.fn.points 0 (steps_from (0 + l.fn.step) l.fn.step l.fn.count) l.fn.numbers.items l.fn.lexer
