use Rattle.std.proofs.Common.{◌≡◌, ◌-◌}
use Rattle.viz_legacy_read.specs.Steps.{fields_at}
use Rattle.viz_legacy_read.proofs.front.fields.Given as goal

-- what comes of the FIELDs that are left is what comes of all
abbrev pub invariant-loop : goal.invariant-loop
invariant-loop l = fields_at l.binary (l.most - l.counter) l.lexer ≡ fields_at l.fn.binary l.fn.most l.fn.lexer
