use Rattle.std.proofs.Common.{◌≡◌, drop}
use Rattle.viz_words.specs.Tables.{with_word, command_word, command_named, commands}
use Rattle.viz_words.proofs.table.command_named.Given as goal

-- it is the first of those that are left
abbrev pub invariant-loop-command : goal.invariant-loop-command
invariant-loop-command l = with_word command_word (drop l.command-index commands) l.text ≡ command_named l.text
