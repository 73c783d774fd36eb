use Rattle.std.proofs.Common.{◌≡◌, ◌+◌, ◌-◌, length, take, drop, replicate, pos}
use Rattle.viz_words.specs.Words.{words_of}
use Rattle.viz_words.specs.Commands.{numbers_in}
use Rattle.viz_words.specs.Steps.Numbered.{numbers_behind}
use Rattle.viz_words.proofs.values.padded_in.Given as goal

-- the numbers so far and those of the words that are left are all; behind them are zeros
abbrev pub invariant-loop-i : goal.invariant-loop-i
invariant-loop-i l = record {
  all : numbers_behind (take l.i l.items) (numbers_in (words_of l.rest)) ≡ numbers_in (words_of l.text);
  zeros : drop l.i l.items ≡ replicate (8 - l.i) (pos 0);
  left : l.i + length (words_of l.rest) ≡ l.count;
  size : length l.items ≡ 8;
}
