use Rattle.std.proofs.Common.{rules, refl, Some, inl}
use Rattle.viz_base.specs.declared.call.ReadAnswer.TheVariants as read
use Rattle.viz_replay.proofs.ServeLemmas.{asked_after}
use Rattle.viz_migrate.specs.Views.{migrate_view}
use Rattle.viz_migrate.proofs.ServeLemmas.{ends_after}
use Rattle.viz_migrate.proofs.serving.serve_port.Goals as goal

pub returns-in-Err-Failed : goal.returns-in-Err-Failed
returns-in-Err-Failed g c = (Some read.Failed, refl, search rules)

pub returns-in-Err-TooLong : goal.returns-in-Err-TooLong
returns-in-Err-TooLong g c = (Some (read.TooLong c.in-Err-TooLong.field-0-0), search rules, search rules)

pub returns-in-Ok-read_journal : goal.returns-in-Ok-read_journal
returns-in-Ok-read_journal g c =
    let r = c.in-Ok.ensures in (
      Some (read.Given c.in-Ok.bytes),
      ends_after g.P.Port (migrate_view c.args.command.now) c.in-Ok.bytes _ _ _ _ (search rules) c.write_entries.ensures,
      asked_after g.P.Port _ _ _ _ r.told r.bytes r.kept r.later r.same_limit,
    )

pub returns-in-Err-Refused : goal.returns-in-Err-Refused
returns-in-Err-Refused g c =
    let r = c.in-Ok.ensures in
    (Some (read.Given c.in-Ok.bytes), search rules, asked_after g.P.Port _ _ _ _ r.told r.bytes r.kept r.later r.same_limit)

pub returns : goal.returns
returns g c =
    let r = c.in-Ok.ensures in
    (Some (read.Given c.in-Ok.bytes), inl refl, asked_after g.P.Port _ _ _ _ r.told r.bytes r.kept r.later r.same_limit)
