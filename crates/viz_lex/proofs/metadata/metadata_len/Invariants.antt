use Rattle.std.proofs.Common.{◌≡◌, ◌+◌, ◌-◌, ◌≤◌, length, drop}
use Rattle.viz_lex.specs.Passing.{metadata_len}
use Rattle.viz_lex.proofs.metadata.metadata_len.Given as goal

-- what was passed and what is left make the whole
abbrev pub invariant-loop-len : goal.invariant-loop-len
invariant-loop-len l = record {
  within : l.at ≤ length l.text;
  told : l.at + metadata_len (drop l.at l.text) ≡ metadata_len l.text;
}

abbrev pub decreases-loop-len : goal.decreases-loop-len
decreases-loop-len l = length l.text - l.at
