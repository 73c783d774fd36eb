use Rattle.std.proofs.Common.{◌≡◌, ◌-◌}
use Rattle.viz_mesh_read.specs.GridSteps.{fields_in_at}
use Rattle.viz_mesh_read.proofs.fields.fields_in.Given as goal

-- what comes of the FIELDs that are left is what comes of all
abbrev pub invariant-loop : goal.invariant-loop
invariant-loop l = fields_in_at l.binary (l.most - l.counter) l.lexer ≡ fields_in_at l.fn.binary l.fn.most l.fn.lexer
