use Rattle.std.proofs.Common.{◌≡◌, ◌+◌, drop}
use Rattle.viz_words.specs.Steps.Scans.{gaps}
use Rattle.viz_words.proofs.scan.gaps.Given as goal

-- what was passed and what is left make the whole
abbrev pub invariant-loop-i : goal.invariant-loop-i
invariant-loop-i l = l.i + gaps (drop l.i l.text) ≡ gaps l.text
