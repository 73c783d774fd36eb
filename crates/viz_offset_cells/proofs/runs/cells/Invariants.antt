use Rattle.std.proofs.Common.{◌≡◌, drop}
use Rattle.viz_offset_cells.specs.Steps.{runs_at, AreCuts}
use Rattle.viz_offset_cells.proofs.runs.cells.Given as goal

-- what comes of the cells that are left is what comes of all, and the offsets that are left don't fall
abbrev pub invariant-loop-next : goal.invariant-loop-next
invariant-loop-next l =
    (runs_at l.binary l.kind l.points l.last (drop l.next-index l.offsets) l.numbers.items l.lexer ≡ runs_at l.fn.binary l.fn.kind l.fn.points l.fn.first l.fn.offsets l.fn.numbers.items l.fn.lexer)
    × AreCuts l.last (drop l.next-index l.offsets) l.indices
