use Rattle.std.proofs.Common.{◌≡◌, ◌-◌, true}
use Rattle.viz_attr.specs.PassedSteps.{passed_arrays_at}
use Rattle.viz_attr.proofs.passed.pass_arrays.Given as goal

-- what comes of the arrays that are left is what comes of all
abbrev pub invariant-loop : goal.invariant-loop
invariant-loop l = passed_arrays_at l.binary l.first (l.count - l.counter) l.lexer ≡ passed_arrays_at l.fn.binary true l.fn.count l.fn.lexer
