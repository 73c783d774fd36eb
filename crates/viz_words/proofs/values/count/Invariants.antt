use Rattle.std.proofs.Common.{◌≡◌, ◌+◌, ◌≤◌, length}
use Rattle.viz_words.specs.Words.{words_of}
use Rattle.viz_words.proofs.values.count.Given as goal

-- the words so far and those that are left are all, and no more than the bytes
abbrev pub invariant-loop-behind : goal.invariant-loop-behind
invariant-loop-behind l = record {
  all : l.n + length (words_of l.rest) ≡ length (words_of l.text);
  few : l.n + length l.rest ≤ length l.text;
}

abbrev pub decreases-loop-behind : goal.decreases-loop-behind
decreases-loop-behind l = length l.rest
