use Rattle.std.proofs.Common.{◌≡◌, ◌+◌, ◌≤◌, drop}
use Rattle.viz_lex.specs.Counted.{word_ends, inside_after}
use Rattle.viz_lex.proofs.pass.count_word_ends.Given as goal

-- what was counted and what is left make the whole
abbrev pub invariant-loop-b : goal.invariant-loop-b
invariant-loop-b l = record {
  told : l.count + word_ends l.open (drop l.b-index l.text) ≡ word_ends l.inside l.text;
  few : l.count ≤ l.b-index;
  rest : inside_after l.open (drop l.b-index l.text) ≡ inside_after l.inside l.text;
}
