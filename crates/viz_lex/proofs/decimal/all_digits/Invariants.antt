use Rattle.std.proofs.Common.{◌≡◌, true, take}
use Rattle.std.specs.List.{list_all}
use Rattle.viz_lex.specs.Numbers.{is_digit}
use Rattle.viz_lex.proofs.decimal.all_digits.Given as goal

-- the bytes so far are digits
abbrev pub invariant-loop-b : goal.invariant-loop-b
invariant-loop-b l = list_all is_digit (take l.b-index l.text) ≡ true
