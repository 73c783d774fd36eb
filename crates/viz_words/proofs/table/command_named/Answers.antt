use Rattle.std.proofs.Common.{◌≡◌, false, get_or, sym, ap, ◌∙◌}
use Rattle.viz_kinds.specs.Values.{is_text}
use Rattle.viz_words.specs.declared.command.Command.TheVariants.{Add}
use Rattle.viz_words.specs.Tables.{command_word, commands}
use Rattle.viz_words.proofs.TableLemmas.{with_word-more}
use Rattle.viz_words.proofs.table.command_named.Goals as goal

pub loop-command-preserved : goal.loop-command-preserved
loop-command-preserved c =
    let differs : is_text c.args.text.now (command_word (get_or commands c.loop-command.command-index Add)) ≡ false = ap (is_text c.args.text.now) (sym c.command_word.ensures.value) ∙ sym c.if-eq.ensures in
    with_word-more command_word commands c.args.text.now c.loop-command.command-index Add c.loop-command-test.true differs ∙ c.loop-command.invariant
