use Rattle.std.proofs.Common.{◌≡◌, ◌-◌, ◌^◌, true, min, take}
use Rattle.std.specs.List.{list_all}
use Rattle.viz_lex.specs.Numbers.{is_digit, digits_value}
use Rattle.viz_words.proofs.numbers.digits.Given as goal

-- the number of the digits so far, or the largest
abbrev pub invariant-loop-b : goal.invariant-loop-b
invariant-loop-b l = record {
  digits : list_all is_digit (take l.b-index l.text) ≡ true;
  value : l.n ≡ min (digits_value (take l.b-index l.text)) (2 ^ 64 - 1);
}
