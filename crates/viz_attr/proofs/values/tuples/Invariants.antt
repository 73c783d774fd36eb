use Rattle.std.proofs.Common.{◌≡◌, ◌-◌, map}
use Rattle.viz_attr.specs.Steps.{tuples_at}
use Rattle.viz_attr.proofs.ValueLoops.{with_front}
use Rattle.viz_attr.proofs.values.tuples.Given as goal

-- the values so far, and those to come, are all
abbrev pub invariant-loop : goal.invariant-loop
invariant-loop g l = with_front (map g.T.Number.value l.numbers.items) (tuples_at g.T.Number.kind l.components (l.count - l.counter) l.lexer) ≡ tuples_at g.T.Number.kind l.components l.count l.fn.lexer
