use Rattle.std.proofs.Common.{◌∙◌, [], sym, ap, ap₂}
use Rattle.std.proofs.lemmas.Result.{IfOk-weaker}
use Rattle.viz_actor.specs.Numbering.{running, with_numbers}
use Rattle.viz_actor.proofs.JournalLemmas.{journal_is}
use Rattle.viz_actor.proofs.journal.journal_entries.Goals as goal

pub returns : goal.returns
returns c =
    let h = c.args.history.items in
    let actors = c.in_ok-actors.actors.items in
    IfOk-weaker c.entries_with.result _ _
    (λ entries is. journal_is h c.args.rows.now c.in_ok-found.found.items actors c.in_ok-numbers.numbers.items entries.items
    (λ actors long. c.in_ok-found.ensures actors (long ∙ sym (c.len.ensures ∙ c.args.history.ok.0)))
    (sym c.deref.ensures.value ∙ c.in_ok-actors.ensures)
    (c.in_ok-numbers.ensures ∙ ap (running []) c.deref-2.ensures.value)
    (is ∙ ap₂ (with_numbers h) c.deref-3.ensures.value c.deref-4.ensures.value))
    c.entries_with.ensures
