use Rattle.std.proofs.Common.{◌≡◌, ◌+◌, drop}
use Rattle.viz_legacy_read.specs.Magic.{digits_len}
use Rattle.viz_legacy_read.proofs.magic.digits.Given as goal

-- digits so far, and those in front of what is left
abbrev pub invariant-loop-i : goal.invariant-loop-i
invariant-loop-i l = l.i + digits_len (drop l.i l.text) ≡ digits_len l.text
