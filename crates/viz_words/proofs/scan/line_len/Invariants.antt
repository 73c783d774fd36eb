use Rattle.std.proofs.Common.{◌≡◌, ◌+◌, drop}
use Rattle.std.specs.Prelude.{option_map}
use Rattle.viz_words.specs.Lines.{line_len}
use Rattle.viz_words.proofs.scan.line_len.Given as goal

-- the place is that in what is left, further on
abbrev pub invariant-loop-i : goal.invariant-loop-i
invariant-loop-i l = option_map (λ n. l.i + n) (line_len (drop l.i l.text)) ≡ line_len l.text
