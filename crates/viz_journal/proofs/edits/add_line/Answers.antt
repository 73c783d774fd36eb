use Rattle.std.proofs.Common.{◌≡◌, ◌+◌, ◌∙◌, ◌++◌, List, [], Ok, Err, sym, ap, arith}
use Rattle.viz_journal.specs.Entries.{edits_of}
use Rattle.viz_journal.specs.declared.entry.JournalEntry.{JournalEntry}
use Rattle.viz_journal.specs.Edits.{edit_at, batch_from}
use Rattle.viz_journal.proofs.PartLemmas.{part}
use Rattle.viz_journal.proofs.ReadLemmas.{batch_from-line, batch_from-edit, batch_from-refused}
use Rattle.viz_journal.proofs.edits.add_line.Goals as goal

pub returns-in-Err : goal.returns-in-Err
returns-in-Err c =
    let ledger = c.args.ledger.now in
    let front = part c.part_of-ended.result.0.now c.part_of-ended.result.1 c.part_of-ended.result.2.now in
    λ k. batch_from-line k c.args.number (edits_of ledger.entries.items) ledger.batch.items c.args.bytes.now front (Err c.in-Err.refusal) c.part_of-ended.ensures.value (sym c.in-Err.ensures)

pub returns-in-Ok-2 : goal.returns-in-Ok-2
returns-in-Ok-2 c =
    let ledger = c.args.ledger.now in
    let before = edits_of ledger.entries.items in
    let batch = ledger.batch.items in
    let front = part c.part_of-ended.result.0.now c.part_of-ended.result.1 c.part_of-ended.result.2.now in
    let draft = c.in-Ok.draft in
    let went = rw c.in-Ok-2.is at c.in_ok-add_told.ensures in
    let made : edit_at (before ++ batch) [] front draft ≡ Ok went.0 = ap (λ t. edit_at (before ++ batch) t front draft) (sym c.clear.ensures.items) ∙ went.1 in (
      went.0,
      went.2,
      omega (arith, c.part_of-ended.ensures.within, c.rest_of-left.ensures.shorter),
      λ k. batch_from-edit k c.args.number before batch c.add_told.new.ledger.batch.items c.args.bytes.now c.rest_of-left.result.now front draft went.0 c.part_of-ended.ensures.value
          (sym c.in-Ok.ensures) made went.2.batch c.rest_of-left.ensures.value
          ∙ ap (λ (es : List JournalEntry). batch_from k (c.args.number + 1) (edits_of es) c.add_told.new.ledger.batch.items c.rest_of-left.result.now) (sym went.2.grown.entries),
    )

pub returns-in-Err-2 : goal.returns-in-Err-2
returns-in-Err-2 c =
    let ledger = c.args.ledger.now in
    let before = edits_of ledger.entries.items in
    let batch = ledger.batch.items in
    let front = part c.part_of-ended.result.0.now c.part_of-ended.result.1 c.part_of-ended.result.2.now in
    let draft = c.in-Ok.draft in
    let went = rw c.in-Err-2.is at c.in_ok-add_told.ensures in
    let made : edit_at (before ++ batch) [] front draft ≡ Err c.in-Err-2.refusal = ap (λ t. edit_at (before ++ batch) t front draft) (sym c.clear.ensures.items) ∙ went in
    λ k. batch_from-refused k c.args.number before batch c.args.bytes.now front draft c.in-Err-2.refusal c.part_of-ended.ensures.value (sym c.in-Ok.ensures) made
