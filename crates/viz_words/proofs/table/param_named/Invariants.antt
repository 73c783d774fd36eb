use Rattle.std.proofs.Common.{◌≡◌, drop}
use Rattle.viz_words.specs.Tables.{with_word, param_word, param_named, params}
use Rattle.viz_words.proofs.table.param_named.Given as goal

-- it is the first of those that are left
abbrev pub invariant-loop-param : goal.invariant-loop-param
invariant-loop-param l = with_word param_word (drop l.param-index params) l.text ≡ param_named l.text
