use Rattle.std.proofs.Common.{suc, ◌<◌, ◌∙◌, ◌+◌, ◌∷◌, length, drop, sym, ap, add-one, arith}
use Rattle.std.proofs.lemmas.Bool.{eqb-false}
use Rattle.std.proofs.lemmas.List.{take_rest, drop_all}
use Rattle.viz_words.specs.Lines.{lines_of}
use Rattle.viz_words.proofs.ScanLemmas.{lines-ended, lines-last}
use Rattle.viz_words.proofs.lines.next_line.Goals as goal

pub returns-in-Some-clause-lines : goal.returns-in-Some-clause-lines
returns-in-Some-clause-lines c =
    let text = c.args.text.now in
    let n = c.in-Some.len in
    lines-ended text n (sym c.in-Some.ensures.value)
    ∙ ap (λ l. l ∷ lines_of (drop (suc n) text)) (sym c.trimmed.ensures)
    ∙ ap (λ l. c.trimmed.result.now ∷ lines_of l) (ap (λ m. drop m text) (sym (add-one n)) ∙ sym (take_rest text (n + 1)))

pub returns-in-None-clause-lines : goal.returns-in-None-clause-lines
returns-in-None-clause-lines c =
    let text = c.args.text.now in
    let some : 0 < length text = omega (arith, eqb-false (length text) 0 (sym c.if-is_empty.ensures)) in
    lines-last text (sym c.in-None.ensures.value) some
    ∙ ap (λ l. text ∷ lines_of l) (sym (take_rest text (length text) ∙ drop_all (length text) text (omega arith)))
