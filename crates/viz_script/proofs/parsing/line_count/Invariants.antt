use Rattle.std.proofs.Common.{◌≡◌, ◌+◌, ◌≤◌, length}
use Rattle.viz_words.specs.Lines.{lines_of}
use Rattle.viz_script.proofs.parsing.line_count.Given as goal

-- the lines so far and those that are left are all, and no more than the bytes
abbrev pub invariant-loop-behind : goal.invariant-loop-behind
invariant-loop-behind l = record {
  all : l.n + length (lines_of l.rest) ≡ length (lines_of l.text);
  few : l.n + length l.rest ≤ length l.text;
}

abbrev pub decreases-loop-behind : goal.decreases-loop-behind
decreases-loop-behind l = length l.rest
