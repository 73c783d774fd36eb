use Rattle.std.proofs.Common.{◌≡◌, ◌+◌, ◌∙◌, List, Ok, sym, ap, arith}
use Rattle.viz_journal.specs.declared.entry.JournalEntry.{JournalEntry}
use Rattle.viz_journal.specs.Entries.{edits_of, entries_by}
use Rattle.viz_journal.specs.Reading.{head_at}
use Rattle.viz_journal.proofs.PartLemmas.{part}
use Rattle.viz_journal.proofs.LedgerLemmas.{length-closed}
use Rattle.viz_journal.proofs.OnlyLemmas.{head-is}
use Rattle.viz_journal.proofs.reading.take_batch.Goals as goal

pub add_lines-requires-clause-room : goal.add_lines-requires-clause-room
add_lines-requires-clause-room c =
    let ledger = c.args.ledger.now in
    let at = part c.args.line.now c.args.ended c.args.rest.now in
    let told : head_at ledger.entries.items at c.args.head ≡ Ok c.in-Ok.head = sym (c.in_ok-head.ensures c.args.rest.now) ∙ c.in-Ok.is in
    let is = head-is ledger.entries.items at c.args.head c.in-Ok.head told in
    omega (arith, length-closed (edits_of ledger.entries.items) ledger.batch.items c.requires.none, is.1.few)

pub add_lines-requires-clause-within : goal.add_lines-requires-clause-within
add_lines-requires-clause-within c =
    let ledger = c.args.ledger.now in
    let at = part c.args.line.now c.args.ended c.args.rest.now in
    let told : head_at ledger.entries.items at c.args.head ≡ Ok c.in-Ok.head = sym (c.in_ok-head.ensures c.args.rest.now) ∙ c.in-Ok.is in
    let is = head-is ledger.entries.items at c.args.head c.in-Ok.head told in
    omega (arith, c.requires.kept.lines, is.1.few)

pub close-requires-clause-counted : goal.close-requires-clause-counted
close-requires-clause-counted c =
    let ledger = c.args.ledger.now in
    let at = part c.args.line.now c.args.ended c.args.rest.now in
    let told : head_at ledger.entries.items at c.args.head ≡ Ok c.in-Ok.head = sym (c.in_ok-head.ensures c.args.rest.now) ∙ c.in-Ok.is in
    let is = head-is ledger.entries.items at c.args.head c.in-Ok.head told in
    is.1.count ∙ ap (λ (es : List JournalEntry). entries_by c.in-Ok.head.actor es + 1) (sym c.in-Ok-add_lines.ensures.0.entries)
