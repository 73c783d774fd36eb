use Rattle.std.proofs.Common.{◌≡◌, ◌-◌}
use Rattle.viz_mesh_read.specs.GridSteps.{cell_types_at}
use Rattle.viz_mesh_read.proofs.types.cell_types.Given as goal

-- what comes of the types that are left is what comes of all
abbrev pub invariant-loop : goal.invariant-loop
invariant-loop l = cell_types_at l.binary (l.count - l.counter) l.left l.lexer ≡ cell_types_at l.fn.binary l.fn.count l.fn.numbers l.fn.lexer
