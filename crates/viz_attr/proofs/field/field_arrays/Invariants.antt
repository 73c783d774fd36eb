use Rattle.std.proofs.Common.{◌≡◌, ◌-◌, true}
use Rattle.viz_attr.specs.Steps.{field_arrays_at}
use Rattle.viz_attr.specs.Reads.{known_of, given_of}
use Rattle.viz_attr.proofs.field.field_arrays.Given as goal

-- what comes of the arrays that are left is what comes of all
abbrev pub invariant-loop : goal.invariant-loop
invariant-loop l =
    field_arrays_at (given_of l.files) (known_of l.progress) l.association l.first (l.count - l.counter) l.lexer
    ≡ field_arrays_at (given_of l.fn.files) (known_of l.fn.progress) l.fn.association true l.fn.count l.fn.lexer
