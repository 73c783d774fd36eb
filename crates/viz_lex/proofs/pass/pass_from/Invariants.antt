use Rattle.std.proofs.Common.{◌≡◌, ◌+◌, ◌<◌, drop}
use Rattle.std.specs.Prelude.{option_map}
use Rattle.viz_lex.specs.Counted.{passed}
use Rattle.viz_lex.proofs.pass.pass_from.Given as goal

-- what was passed and what is left make the whole
abbrev pub invariant-loop-i : goal.invariant-loop-i
invariant-loop-i l = record {
  told : option_map (λ k. l.i + k) (passed l.open l.left (drop l.i l.text)) ≡ passed l.inside l.count l.text;
  some : 0 < l.left;
}
