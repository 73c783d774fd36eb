use Rattle.std.proofs.Common.{rules, List, length, refl, ap, Some, arith}
use Rattle.viz_base.specs.declared.call.ReadAnswer.TheVariants as read
use Rattle.viz_journal.specs.declared.entry.JournalEntry.{JournalEntry}
use Rattle.viz_journal.specs.Entries.{edits_of}
use Rattle.viz_replay.specs.Served.{replay_of}
use Rattle.viz_replay.proofs.ServeLemmas.{asked_after, ends_after}
use Rattle.viz_replay.proofs.serving.serve_over.Goals as goal

pub returns-in-Err-Failed : goal.returns-in-Err-Failed
returns-in-Err-Failed g c = (Some read.Failed, refl, search rules)

pub returns-in-Err-TooLong : goal.returns-in-Err-TooLong
returns-in-Err-TooLong g c = (Some (read.TooLong c.in-Err-TooLong.field-0-0), search rules, search rules)

pub returns-in-Ok-read_journal : goal.returns-in-Ok-read_journal
returns-in-Ok-read_journal g c =
    let r = c.in-Ok.ensures in (
      Some (read.Given c.in-Ok.bytes),
      ends_after g.P.Port (replay_of c.args.command.now) c.in-Ok.bytes _ _ _ _ (search rules) c.serve_entries.ensures,
      asked_after g.P.Port _ _ _ _ r.told r.bytes r.kept r.later r.same_limit,
    )

pub returns-in-Err-Refused : goal.returns-in-Err-Refused
returns-in-Err-Refused g c =
    let r = c.in-Ok.ensures in
    (Some (read.Given c.in-Ok.bytes), search rules, asked_after g.P.Port _ _ _ _ r.told r.bytes r.kept r.later r.same_limit)

pub returns : goal.returns
returns g c =
    let r = c.in-Ok.ensures in
    (Some (read.Given c.in-Ok.bytes), refl, asked_after g.P.Port _ _ _ _ r.told r.bytes r.kept r.later r.same_limit)

pub serve_entries-requires : goal.serve_entries-requires
serve_entries-requires g c =
    let is = c.nothing_else_is_read.ensures.only c.list.result.now c.in-Ok-read_journal.entries.items c.in-Ok-read_journal.ensures.reads in
    record { few = omega (arith, ap (λ (es : List JournalEntry). length (edits_of es)) c.deref.ensures.value, is.2.few) }
