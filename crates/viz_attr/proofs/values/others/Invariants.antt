use Rattle.std.proofs.Common.{◌≡◌, ◌-◌}
use Rattle.viz_attr.specs.Steps.{others_at}
use Rattle.viz_attr.proofs.values.others.Given as goal

-- what is still to come is what comes of all
abbrev pub invariant-loop : goal.invariant-loop
invariant-loop g l = others_at g.T.Number.kind (l.count - l.counter) l.lexer ≡ others_at g.T.Number.kind l.count l.fn.lexer
