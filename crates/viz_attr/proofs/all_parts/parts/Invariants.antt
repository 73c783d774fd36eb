use Rattle.std.proofs.Common.{◌≡◌, ◌-◌}
use Rattle.viz_attr.specs.Steps.{parts_at}
use Rattle.viz_attr.specs.Reads.{known_of, given_of}
use Rattle.viz_attr.proofs.all_parts.parts.Given as goal

-- what comes of the parts that are left is what comes of all
abbrev pub invariant-loop : goal.invariant-loop
invariant-loop l =
    parts_at (given_of l.files) (known_of l.progress) (l.most - l.counter) l.lexer ≡ parts_at (given_of l.fn.files) (known_of l.fn.progress) l.fn.most l.fn.lexer
