use Rattle.std.proofs.Common.{◌≡◌, ◌+◌, drop}
use Rattle.viz_words.specs.Steps.Scans.{word_len}
use Rattle.viz_words.proofs.scan.word_len.Given as goal

-- what was passed and what is left make the whole
abbrev pub invariant-loop-i : goal.invariant-loop-i
invariant-loop-i l = l.i + word_len (drop l.i l.text) ≡ word_len l.text
