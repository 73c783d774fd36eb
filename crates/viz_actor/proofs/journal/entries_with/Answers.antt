use Rattle.std.proofs.Common.{◌∙◌, ap, sym, map, rules, ℕ}
use Rattle.std.proofs.lemmas.Simd.{map-map}
use Rattle.std.proofs.lemmas.Iterator.{YieldsList-from_slice, YieldsList-from_zip}
use Rattle.std.proofs.lemmas.Iterator.Adapters.{YieldsList-from_vec}
use Rattle.std.proofs.lemmas.Iterator.Consumers.{YieldsList-end}
use Rattle.viz_entries.specs.declared.entry.Entry.{Entry}
use Rattle.viz_journal.specs.declared.entry.JournalEntry.{JournalEntry}
use Rattle.viz_actor.proofs.journal.entries_with.Goals as goal

pub returns : goal.returns
returns c =
    let all =
    YieldsList-end (YieldsList-from_zip (YieldsList-from_zip (YieldsList-from_vec c.args.history.items (search rules) (search rules)) (YieldsList-from_slice c.args.actors.now (search rules))) (YieldsList-from_slice c.args.numbers.now (search rules)))
    c.loop-entry.yielded c.loop-entry.entry-iterator c.loop-entry.yielded_by c.next.result c.next.new.self c.in-None.is c.next.ensures.steps
    in
    let entry : (Entry × ℕ) × ℕ → JournalEntry = λ p. record { actor = p.0.1; count = p.1; batch = p.0.0.batch } in
    c.loop-entry.invariant ∙ sym (map-map entry _ c.loop-entry.yielded) ∙ ap (map entry) all.0
