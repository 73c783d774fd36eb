use Rattle.std.proofs.Common.{◌≡◌, ◌+◌, ◌-◌, ◌<◌, ◌≤◌, drop, length}
use Rattle.std.specs.Prelude.{option_map, false}
use Rattle.viz_lex.specs.Counted.{passed}
use Rattle.viz_lex.proofs.pass.pass_by.Given as goal

-- what was passed and what is left make the whole
abbrev pub invariant-loop-at : goal.invariant-loop-at
invariant-loop-at l = record {
  within : l.at ≤ length l.text;
  some : 0 < l.left;
  told : option_map (λ k. l.at + k) (passed l.inside l.left (drop l.at l.text)) ≡ passed false l.count l.text;
}

abbrev pub decreases-loop-at : goal.decreases-loop-at
decreases-loop-at l = length l.text - l.at
