-- A run without faults answers Done exactly where the journal is accepted.
use Rattle.std.proofs.Common.{◌≡◌, List, [], ◌∷◌, Option, None, Some, refl, inl, inr}
use Rattle.std.specs.Prelude.{◌⊎◌}
use Rattle.viz_base.specs.Faults.{Rose}
use Rattle.viz_base.specs.declared.port.Port as port
use Rattle.viz_base.specs.declared.out.Out as out
use Rattle.viz_base.specs.declared.call.ReadAnswer.{ReadAnswer}
use Rattle.viz_base.specs.declared.call.ReadAnswer.TheVariants as read
use Rattle.viz_replay.specs.Replay.{asked}
use Rattle.viz_told.specs.declared.status.Status.{Status}
use Rattle.viz_told.specs.declared.status.Status.TheVariants as status
use Rattle.viz_told.specs.Calls.{IsCalled}
use Rattle.viz_told.specs.Ports.{FirstRose}
use Rattle.viz_told.specs.Told.{IsTold}
use Rattle.viz_told.proofs.ToldLemmas.{ends_in_memory, ends_whole}
use Rattle.viz_migrate.specs.declared.came.Came.{Came}
use Rattle.viz_migrate.specs.declared.came.Came.TheVariants as came
use Rattle.viz_migrate.specs.Complete.{EndsBy, IsComplete}
use Rattle.viz_migrate.specs.Migrate.{Migrate, IsEndAtPort, IsMigrateRun}
use Rattle.viz_migrate.specs.Told.{status_of, telling_of}

module _ {P O : Type 0} (m : port.Ghosts P) (o : out.Ghosts O) (c : Migrate) (desk new_desk : P) (before after : O) (ended : Status)
    (quiet_desk : Rose (m.faults desk) (m.faults new_desk) → ⊥) (quiet_out : Rose (o.faults before) (o.faults after) → ⊥) where
  abbrev Told : Came → Type 0
  Told found = IsTold o (telling_of found) ended before after

  by_found : (found : Came) → Told found → (ended ≡ status_of found) ⊎ (ended ≡ status.Memory)
  by_found found told = ends_whole o before after ended (telling_of found) told quiet_out

  in_memory : (found : Came) → status_of found ≡ status.Memory → Told found → ended ≡ status.Memory
  in_memory found is told = ends_in_memory o before after ended (telling_of found) is told

  ends_by : (answer : Option ReadAnswer) (found : Came) (p q : P) → (Rose (m.faults p) (m.faults q) → ⊥) → IsEndAtPort m c answer found p q
      → IsCalled m (asked c.journal answer) desk new_desk → Told found → EndsBy ended answer
  ends_by None came.Memory p q quiet h d told = in_memory came.Memory refl told
  ends_by None came.NoPort p q quiet h d told = absurd h
  ends_by None came.Unread p q quiet h d told = absurd h
  ends_by None (came.Refused n r) p q quiet h d told = absurd h
  ends_by None (came.Migrated count) p q quiet h d told = absurd h
  ends_by None came.Unwritten p q quiet h d told = absurd h
  ends_by (Some read.Failed) found p q quiet h d told = absurd (quiet_desk (d.cause tt))
  ends_by (Some (read.TooLong taken)) (came.Refused n r) p q quiet h d told = elim (by_found (came.Refused n r) told) [
    | inl is ↦ inl (inl (is, (n, r, h.0)))
    | inr memory ↦ inl (inr memory)
  ]
  ends_by (Some (read.TooLong taken)) came.NoPort p q quiet h d told = absurd h
  ends_by (Some (read.TooLong taken)) came.Unread p q quiet h d told = absurd h
  ends_by (Some (read.TooLong taken)) (came.Migrated count) p q quiet h d told = absurd h
  ends_by (Some (read.TooLong taken)) came.Unwritten p q quiet h d told = absurd h
  ends_by (Some (read.TooLong taken)) came.Memory p q quiet h d told = absurd h
  ends_by (Some (read.Given bytes)) (came.Refused n r) p q quiet h d told = elim (by_found (came.Refused n r) told) [
    | inl is ↦ inl (inl (is, (n, r, h.0)))
    | inr memory ↦ inl (inr memory)
  ]
  ends_by (Some (read.Given bytes)) (came.Migrated count) p q quiet h d told = inr (h.0, h.1, by_found (came.Migrated count) told)
  ends_by (Some (read.Given bytes)) came.Unwritten p q quiet h d told = absurd (quiet (h.2.cause tt))
  ends_by (Some (read.Given bytes)) came.Memory p q quiet h d told = inl (inr (in_memory came.Memory refl told))
  ends_by (Some (read.Given bytes)) came.NoPort p q quiet h d told = absurd h
  ends_by (Some (read.Given bytes)) came.Unread p q quiet h d told = absurd h

  over : (found : Came) (old new : List P) → (old ≡ [] → ⊥) → (FirstRose m old new → ⊥) → IsMigrateRun m c found desk new_desk old new → Told found
      → (answer : Option ReadAnswer) × IsCalled m (asked c.journal answer) desk new_desk × EndsBy ended answer
  over found [] new some quiet ran told = absurd (some refl)
  over found (p ∷ ps) [] some quiet ran told = absurd ran
  over found (p ∷ ps) (q ∷ qs) some quiet ran told =
      (ran.0.0, ran.0.2, ends_by ran.0.0 found p q (λ rose. quiet (rose, ran.1)) ran.0.1 ran.0.2 told)

pub complete : {P O : Type 0} (m : port.Ghosts P) (o : out.Ghosts O) (c : Migrate) (desk new_desk : P) (old new : List P) (before after : O) (ended : Status) (found : Came)
    → IsMigrateRun m c found desk new_desk old new → IsTold o (telling_of found) ended before after → IsComplete m o c desk new_desk old new before after ended
complete m o c desk new_desk old new before after ended found ran told = λ some quiet_desk quiet_ports quiet_out.
    over m o c desk new_desk before after ended quiet_desk quiet_out found old new some quiet_ports ran told
