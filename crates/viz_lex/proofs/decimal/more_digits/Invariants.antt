use Rattle.std.proofs.Common.{◌≡◌, ◌-◌, ◌^◌, min, take}
use Rattle.viz_lex.specs.Scaled.{more_digits}
use Rattle.viz_lex.proofs.decimal.more_digits.Given as goal

-- the number with the digits so far, or the largest
abbrev pub invariant-loop-b : goal.invariant-loop-b
invariant-loop-b l = l.all ≡ min (more_digits l.n (take l.b-index l.digits)) (2 ^ 128 - 1)
