use Rattle.std.proofs.Common.{Bor, ℕ, ◌<◌, ◌∙◌, List, length, Ok, sym, ap, eqb-true, arith}
use Rattle.std.proofs.lemmas.Bool.{eqb-false}
use Rattle.viz_journal.specs.declared.entry.JournalEntry.{JournalEntry}
use Rattle.viz_journal.specs.Reading.{journal_from}
use Rattle.viz_journal.proofs.ReadLemmas.{journal_from-empty, fuelled, stopped-read}
use Rattle.viz_journal.proofs.reading.entries_of.Goals as goal

pub loop-rest-preserved : goal.loop-rest-preserved
loop-rest-preserved c =
    let ledger = c.loop-rest.ledger in
    let rest = c.loop-rest.rest.now in
    let all = c.loop-rest.invariant.all in
    let some : 0 < length rest = omega (arith, eqb-false (length rest) 0 (sym c.loop-rest-test.ensures)) in
    let more = fuelled all.0 rest some all.1 in
    let went = rw c.in-Ok-Some.field-0-is at c.in-Ok-Some.ensures in
    record {
      closed = went.0;
      all = (more.0, omega (arith, all.1, more.1, went.1), sym (went.2 more.0) ∙ ap (λ (k : ℕ). journal_from c.args.version k ledger.line ledger.entries.items rest) (sym more.1) ∙ all.2);
    }

pub returns-in-Ok-None : goal.returns-in-Ok-None
returns-in-Ok-None c =
    let ledger = c.loop-rest.ledger in
    let rest = c.loop-rest.rest.now in
    let all = c.loop-rest.invariant.all in
    let some : 0 < length rest = omega (arith, eqb-false (length rest) 0 (sym c.loop-rest-test.ensures)) in
    let more = fuelled all.0 rest some all.1 in
    let went = rw c.in-Ok-None.field-0-is at c.in-Ok-None.ensures in
    sym all.2 ∙ ap (λ (k : ℕ). journal_from c.args.version k ledger.line ledger.entries.items rest) more.1 ∙ went.0 more.0 ∙ ap (λ (l : List JournalEntry). Ok l) (sym (c.entries_in.ensures ∙ went.1))

pub returns-in-Err : goal.returns-in-Err
returns-in-Err c =
    let ledger = c.loop-rest.ledger in
    let rest = c.loop-rest.rest.now in
    let all = c.loop-rest.invariant.all in
    let some : 0 < length rest = omega (arith, eqb-false (length rest) 0 (sym c.loop-rest-test.ensures)) in
    let more = fuelled all.0 rest some all.1 in
    stopped-read {S = Bor (List ℕ)} (λ x. x.now) c.in-Err.stop c.args.version ledger c.step.new.ledger rest more.0 _ c.in-Err.ensures
    (ap (λ (k : ℕ). journal_from c.args.version k ledger.line ledger.entries.items rest) (sym more.1) ∙ all.2)

pub returns : goal.returns
returns c =
    let ledger = c.loop-rest.ledger in
    let rest = c.loop-rest.rest.now in
    let all = c.loop-rest.invariant.all in
    let read = sym all.2 ∙ journal_from-empty c.args.version all.0 ledger.line ledger.entries.items rest (eqb-true (length rest) 0 (sym c.loop-rest-test.ensures)) in
    rw c.refused.ensures read
