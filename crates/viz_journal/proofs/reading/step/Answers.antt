use Rattle.std.proofs.Common.{Bor, ℕ, ◌∙◌, List, Ok, Err, refl, sym, arith}
use Rattle.viz_journal.specs.declared.line.Line.TheVariants as line
use Rattle.viz_journal.specs.Reading.{last_at, journal_from}
use Rattle.viz_journal.proofs.PartLemmas.{part}
use Rattle.viz_journal.proofs.ReadLemmas.{journal_from-line, journal_from-single, journal_from-refused, stopped, stopped-head}
use Rattle.viz_journal.proofs.reading.step.Goals as goal

pub returns-in-Err : goal.returns-in-Err
returns-in-Err c =
    let es = c.args.ledger.now.entries.items in
    let n = c.args.ledger.now.line in
    let front = part c.part_of-ended.result.0.now c.part_of-ended.result.1 c.part_of-ended.result.2.now in
    rw c.refused.ensures (λ k. journal_from-line c.args.version k n es c.args.bytes.now front (Err c.in-Err.refusal) c.part_of-ended.ensures.value (sym c.in-Err.ensures))

pub returns-in-Ok : goal.returns-in-Ok
returns-in-Ok c =
    let es = c.args.ledger.now.entries.items in
    let n = c.args.ledger.now.line in
    let front = part c.part_of-ended.result.0.now c.part_of-ended.result.1 c.part_of-ended.result.2.now in
    let count = c.in-Ok-Last.count in
    let says = rw c.in-Ok-Last.field-0-is at c.in-Ok-Last.ensures in
    (λ k. journal_from-line c.args.version k n es c.args.bytes.now front (Ok (line.Last count)) c.part_of-ended.ensures.value (sym says) ∙ c.in-Ok.ensures, refl)

pub returns-in-Err-end : goal.returns-in-Err-end
returns-in-Err-end c =
    let es = c.args.ledger.now.entries.items in
    let n = c.args.ledger.now.line in
    let front = part c.part_of-ended.result.0.now c.part_of-ended.result.1 c.part_of-ended.result.2.now in
    let count = c.in-Ok-Last.count in
    let says = rw c.in-Ok-Last.field-0-is at c.in-Ok-Last.ensures in
    stopped {S = Bor (List ℕ)} (λ x. x.now) c.in-Err-end.stop (last_at n es front count) c.args.version c.args.ledger.now c.args.ledger.now c.args.bytes.now c.in-Err-end.ensures
    (λ k. journal_from-line c.args.version k n es c.args.bytes.now front (Ok (line.Last count)) c.part_of-ended.ensures.value (sym says))

pub returns-in-Ok-2 : goal.returns-in-Ok-2
returns-in-Ok-2 c =
    let es = c.args.ledger.now.entries.items in
    let n = c.args.ledger.now.line in
    let front = part c.part_of-ended.result.0.now c.part_of-ended.result.1 c.part_of-ended.result.2.now in
    let says = rw c.in-Ok-Single.field-0-is at c.in-Ok-Single.ensures in
    let went = rw c.in-Ok-2.is at c.in_ok-take_single-in-Ok-Single.ensures in (
      went.2.closed,
      omega (arith, c.part_of-ended.ensures.shorter c.requires.some, c.rest_of-left.ensures.shorter),
      λ k. journal_from-single c.args.version k n c.take_single.new.ledger.line es c.take_single.new.ledger.entries.items c.args.bytes.now c.rest_of-left.result.now front c.in-Ok-Single.told
          went.0 c.part_of-ended.ensures.value (sym says) went.1 went.2.entries went.2.line c.rest_of-left.ensures.value,
    )

pub returns-in-Err-2 : goal.returns-in-Err-2
returns-in-Err-2 c =
    let es = c.args.ledger.now.entries.items in
    let n = c.args.ledger.now.line in
    let front = part c.part_of-ended.result.0.now c.part_of-ended.result.1 c.part_of-ended.result.2.now in
    let says = rw c.in-Ok-Single.field-0-is at c.in-Ok-Single.ensures in
    let went = rw c.in-Err-2.is at c.in_ok-take_single-in-Ok-Single.ensures in
    rw c.refused-in-Err-2.ensures (λ k. journal_from-refused c.args.version k n es c.args.bytes.now front c.in-Ok-Single.told c.in-Err-2.refusal c.part_of-ended.ensures.value (sym says) went)

pub returns-in-Ok-take_batch : goal.returns-in-Ok-take_batch
returns-in-Ok-take_batch c =
    let es = c.args.ledger.now.entries.items in
    let n = c.args.ledger.now.line in
    let front = part c.part_of-ended.result.0.now c.part_of-ended.result.1 c.part_of-ended.result.2.now in
    let says = rw c.in-Ok-Batch.field-0-is at c.in-Ok-Batch.ensures in
    let went = c.in-Ok-take_batch.ensures in (
      went.0,
      omega (arith, c.part_of-ended.ensures.shorter c.requires.some, went.1),
      λ k. journal_from-line c.args.version k n es c.args.bytes.now front (Ok (line.Batch c.in-Ok-Batch.head)) c.part_of-ended.ensures.value (sym says)
          ∙ went.2 (journal_from c.args.version k),
    )

pub returns-in-Err-take_batch : goal.returns-in-Err-take_batch
returns-in-Err-take_batch c =
    let front = part c.part_of-ended.result.0.now c.part_of-ended.result.1 c.part_of-ended.result.2.now in
    let says = rw c.in-Ok-Batch.field-0-is at c.in-Ok-Batch.ensures in
    stopped-head {S = Bor (List ℕ)} (λ x. x.now) c.in-Err-take_batch.stop c.args.version c.args.ledger.now c.take_batch.new.ledger c.take_batch.new.ledger c.args.bytes.now front c.in-Ok-Batch.head
    c.in-Err-take_batch.ensures c.part_of-ended.ensures.value (sym says)
