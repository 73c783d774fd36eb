use Rattle.std.proofs.Common.{◌≡◌, false, get_or, sym, ap, ◌∙◌}
use Rattle.viz_kinds.specs.Values.{is_text}
use Rattle.viz_kinds.specs.declared.param.Param.TheVariants.{Array}
use Rattle.viz_words.specs.Tables.{param_word, params}
use Rattle.viz_words.proofs.TableLemmas.{with_word-more}
use Rattle.viz_words.proofs.table.param_named.Goals as goal

pub loop-param-preserved : goal.loop-param-preserved
loop-param-preserved c =
    let differs : is_text c.args.text.now (param_word (get_or params c.loop-param.param-index Array)) ≡ false = ap (is_text c.args.text.now) (sym c.param_word.ensures.value) ∙ sym c.if-eq.ensures in
    with_word-more param_word params c.args.text.now c.loop-param.param-index Array c.loop-param-test.true differs ∙ c.loop-param.invariant
