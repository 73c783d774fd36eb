-- A run without faults answers Done exactly where the sink has a file.
use Rattle.std.proofs.Common.{◌≡◌, List, [], ◌∷◌, Option, None, Some, refl, inl, inr}
use Rattle.std.specs.Prelude.{◌⊎◌}
use Rattle.viz_base.specs.Faults.{Rose}
use Rattle.viz_base.specs.declared.port.Port as port
use Rattle.viz_base.specs.declared.out.Out as out
use Rattle.viz_base.specs.declared.call.ReadAnswer.{ReadAnswer}
use Rattle.viz_base.specs.declared.call.ReadAnswer.TheVariants as read
use Rattle.viz_journal.specs.declared.entry.JournalEntry.{JournalEntry}
use Rattle.viz_report.specs.declared.line.Line.{Line}
use Rattle.viz_report.specs.declared.line.Line.TheVariants as line
use Rattle.viz_account.specs.Complete.{HasFile, UpdatesSayOfFiles}
use Rattle.viz_account.specs.Written.{HasNoPlan}
use Rattle.viz_account.proofs.AccountLemmas.{rose_by}
use Rattle.viz_told.specs.declared.status.Status.{Status}
use Rattle.viz_told.specs.declared.status.Status.TheVariants as status
use Rattle.viz_told.specs.Calls.{IsCalled}
use Rattle.viz_told.specs.Complete.{EndsComplete}
use Rattle.viz_told.specs.Ports.{FirstRose}
use Rattle.viz_told.specs.Told.{IsTold}
use Rattle.viz_told.proofs.ToldLemmas.{ends_in_memory, ends_whole}
use Rattle.viz_replay.specs.declared.came.Came.{Came}
use Rattle.viz_replay.specs.declared.came.Came.TheVariants as came
use Rattle.viz_replay.specs.Complete.{EndsBy, IsComplete}
use Rattle.viz_replay.specs.Replay.{Replay, asked, network_at, entries_at, IsUpdated, IsEndOfReplay, IsReplayRun}
use Rattle.viz_replay.specs.Told.{status_of, telling_of}

module _ {P O : Type 0} (says : UpdatesSayOfFiles HasNoPlan) (m : port.Ghosts P) (o : out.Ghosts O) (c : Replay) (before after : O) (ended : Status)
    (quiet_out : Rose (o.faults before) (o.faults after) → ⊥) where
  abbrev Told : Came → Type 0
  Told found = IsTold o (telling_of found) ended before after

  by_found : (found : Came) → Told found → (ended ≡ status_of found) ⊎ (ended ≡ status.Memory)
  by_found found told = ends_whole o before after ended (telling_of found) told quiet_out

  in_memory : (found : Came) → status_of found ≡ status.Memory → Told found → ended ≡ status.Memory
  in_memory found is told = ends_in_memory o before after ended (telling_of found) is told

  -- an update by the first port
  updated : (entries : List JournalEntry) (l : Line) (old new : List P) → (FirstRose m old new → ⊥) → IsUpdated m c entries l old new → Told (came.Updated l)
      → EndsComplete (HasFile (network_at c.count entries) c.sink) ended
  updated entries l [] new quiet u told = absurd u
  updated entries l (p ∷ ps) [] quiet u told = absurd u
  updated entries (line.File at cells points ran) (p ∷ ps) (q ∷ qs) quiet u told = elim (by_found (came.Updated (line.File at cells points ran)) told) [
    | inl is ↦ inl (is, says (network_at c.count entries) (entries_at c.count entries) c.sink c.output (line.File at cells points ran) u.0.gained.0 u.0.gained.2)
    | inr memory ↦ inr (inr memory)
  ]
  updated entries (line.Refused reason at) (p ∷ ps) (q ∷ qs) quiet u told = elim (by_found (came.Updated (line.Refused reason at)) told) [
    | inl is ↦ inr (inl (is, says (network_at c.count entries) (entries_at c.count entries) c.sink c.output (line.Refused reason at) u.0.gained.0 u.0.gained.2))
    | inr memory ↦ inr (inr memory)
  ]
  updated entries line.WriteFault (p ∷ ps) (q ∷ qs) quiet u told = absurd (quiet (rose_by 0 (m.faults p) (m.faults q) u.0.faults, u.1))
  updated entries (line.Edit at) (p ∷ ps) (q ∷ qs) quiet u told = inr (inr (in_memory (came.Updated (line.Edit at)) refl told))
  updated entries (line.Audit at sides two lone border) (p ∷ ps) (q ∷ qs) quiet u told = inr (inr (in_memory (came.Updated (line.Audit at sides two lone border)) refl told))
  updated entries line.ReadFault (p ∷ ps) (q ∷ qs) quiet u told = inr (inr (in_memory (came.Updated line.ReadFault) refl told))
  updated entries line.Memory (p ∷ ps) (q ∷ qs) quiet u told = inr (inr (in_memory (came.Updated line.Memory) refl told))

  module _ (desk new_desk : P) (old new : List P) (some : old ≡ [] → ⊥) (quiet_desk : Rose (m.faults desk) (m.faults new_desk) → ⊥)
      (quiet_ports : FirstRose m old new → ⊥) where
    ends_by : (answer : Option ReadAnswer) (found : Came) → IsEndOfReplay m c answer found old new → IsCalled m (asked c.journal answer) desk new_desk → Told found → EndsBy c ended answer
    ends_by None came.NoPort h d told = absurd (some h.0)
    ends_by None came.Memory h d told = in_memory came.Memory refl told
    ends_by None came.Unread h d told = absurd h
    ends_by None (came.Refused n r) h d told = absurd h
    ends_by None (came.Updated l) h d told = absurd h
    ends_by (Some read.Failed) found h d told = absurd (quiet_desk (d.cause tt))
    ends_by (Some (read.TooLong taken)) (came.Refused n r) h d told = elim (by_found (came.Refused n r) told) [
      | inl is ↦ inl (inl (is, (n, r, h.0)))
      | inr memory ↦ inl (inr memory)
    ]
    ends_by (Some (read.TooLong taken)) came.NoPort h d told = absurd h
    ends_by (Some (read.TooLong taken)) came.Unread h d told = absurd h
    ends_by (Some (read.TooLong taken)) came.Memory h d told = absurd h
    ends_by (Some (read.TooLong taken)) (came.Updated l) h d told = absurd h
    ends_by (Some (read.Given bytes)) (came.Refused n r) h d told = elim (by_found (came.Refused n r) told) [
      | inl is ↦ inl (inl (is, (n, r, h.0)))
      | inr memory ↦ inl (inr memory)
    ]
    ends_by (Some (read.Given bytes)) came.Memory h d told = inl (inr (in_memory came.Memory refl told))
    ends_by (Some (read.Given bytes)) (came.Updated l) h d told = inr (h.0, h.1, updated h.0 l old new quiet_ports h.2 told)
    ends_by (Some (read.Given bytes)) came.NoPort h d told = absurd h
    ends_by (Some (read.Given bytes)) came.Unread h d told = absurd h

pub complete : {P O : Type 0} → UpdatesSayOfFiles HasNoPlan → (m : port.Ghosts P) (o : out.Ghosts O) (c : Replay) (desk new_desk : P) (old new : List P) (before after : O) (ended : Status)
    (found : Came) → IsReplayRun m c found desk new_desk old new → IsTold o (telling_of found) ended before after → IsComplete m o c desk new_desk old new before after ended
complete says m o c desk new_desk old new before after ended found ran told = λ some quiet_desk quiet_ports quiet_out.
    (ran.0, ran.2, ends_by says m o c before after ended quiet_out desk new_desk old new some quiet_desk quiet_ports ran.0 found ran.1 ran.2 told)
