use Rattle.std.proofs.Common.{◌≡◌, ◌+◌, drop}
use Rattle.viz_lex.specs.Decimals.{is_letter, first_at}
use Rattle.viz_lex.proofs.decimal.letter_at.Given as goal

-- what was passed and what is left make the whole
abbrev pub invariant-loop-i : goal.invariant-loop-i
invariant-loop-i l = l.i + first_at is_letter (drop l.i l.text) ≡ first_at is_letter l.text
