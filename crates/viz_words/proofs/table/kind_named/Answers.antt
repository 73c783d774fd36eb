use Rattle.std.proofs.Common.{◌≡◌, false, get_or, sym, ap, ◌∙◌}
use Rattle.viz_kinds.specs.Values.{is_text}
use Rattle.viz_kinds.specs.declared.kind.Kind.TheVariants.{File}
use Rattle.viz_words.specs.Tables.{kind_word, kinds}
use Rattle.viz_words.proofs.TableLemmas.{with_word-more}
use Rattle.viz_words.proofs.table.kind_named.Goals as goal

pub loop-kind-preserved : goal.loop-kind-preserved
loop-kind-preserved c =
    let differs : is_text c.args.text.now (kind_word (get_or kinds c.loop-kind.kind-index File)) ≡ false = ap (is_text c.args.text.now) (sym c.kind_word.ensures.value) ∙ sym c.if-eq.ensures in
    with_word-more kind_word kinds c.args.text.now c.loop-kind.kind-index File c.loop-kind-test.true differs ∙ c.loop-kind.invariant
