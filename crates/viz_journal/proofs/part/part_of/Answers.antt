use Rattle.std.proofs.Common.{◌∙◌, true, false, ◌+◌, length, take, drop, sym, ap, add-one, arith}
use Rattle.std.proofs.lemmas.List.{take_rest, drop_all}
use Rattle.viz_journal.proofs.PartLemmas.{part, part-ended, part-last}
use Rattle.viz_journal.proofs.part.part_of.Goals as goal

pub returns-in-Some-clause-value : goal.returns-in-Some-clause-value
returns-in-Some-clause-value c =
    let text = c.args.text.now in
    let n = c.in-Some.len in
    part-ended text n (sym c.in-Some.ensures.value) ∙ ap (part (take n text) true) (ap (λ m. drop m text) (sym (add-one n)) ∙ sym (take_rest text (n + 1)))

pub returns-in-None-clause-value : goal.returns-in-None-clause-value
returns-in-None-clause-value c =
    let text = c.args.text.now in
    part-last text (sym c.in-None.ensures.value) ∙ ap (part text false) (sym (take_rest text (length text) ∙ drop_all (length text) text (omega arith)))
