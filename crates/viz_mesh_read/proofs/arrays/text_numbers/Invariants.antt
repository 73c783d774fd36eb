use Rattle.std.proofs.Common.{◌≡◌, ◌-◌, map}
use Rattle.viz_lex.specs.Readers.{times_at}
use Rattle.viz_mesh_read.specs.Steps.{value_at}
use Rattle.viz_counted_cells.proofs.Loops.{with_front}
use Rattle.viz_mesh_read.proofs.arrays.text_numbers.Given as goal

-- the numbers so far, and those to come, are all
abbrev pub invariant-loop : goal.invariant-loop
invariant-loop g l = with_front (map g.T.Number.value l.numbers.items) (times_at (value_at g.T.Number.kind) (l.count - l.counter) l.lexer) ≡ times_at (value_at g.T.Number.kind) l.count l.fn.lexer
