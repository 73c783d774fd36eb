use Rattle.std.proofs.Common.{◌≡◌, drop}
use Rattle.viz_words.specs.Tables.{with_word, kind_word, kind_named, kinds}
use Rattle.viz_words.proofs.table.kind_named.Given as goal

-- it is the first of those that are left
abbrev pub invariant-loop-kind : goal.invariant-loop-kind
invariant-loop-kind l = with_word kind_word (drop l.kind-index kinds) l.text ≡ kind_named l.text
