use Rattle.std.proofs.Common.{◌≡◌, drop}
use Rattle.viz_lex.specs.Steps.{continues}
use Rattle.viz_lex.proofs.steps.continues.Given as goal

-- whether the line goes on is decided by what is left
abbrev pub invariant-loop-b : goal.invariant-loop-b
invariant-loop-b l = continues (drop l.b-index l.text) ≡ continues l.text
