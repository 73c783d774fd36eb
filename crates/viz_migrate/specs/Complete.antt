-- When a run that writes a journal anew answers Done, and when Script (docs/FORMATS.md, "Report").
use Rattle.std.specs.Prelude.{◌≡◌, List, [], ◌⊎◌, Option, None, Some, Ok}
use Rattle.viz_base.specs.Faults.{Rose}
use Rattle.viz_base.specs.declared.port.Port as port
use Rattle.viz_base.specs.declared.out.Out as out
use Rattle.viz_base.specs.declared.call.ReadAnswer.{ReadAnswer}
use Rattle.viz_base.specs.declared.call.ReadAnswer.TheVariants as read
use Rattle.viz_journal.specs.declared.entry.JournalEntry.{JournalEntry}
use Rattle.viz_journal.specs.Reading.{journal_read}
use Rattle.viz_replay.specs.Complete.{IsRefusedBy}
use Rattle.viz_replay.specs.Replay.{asked}
use Rattle.viz_told.specs.declared.status.Status.{Status}
use Rattle.viz_told.specs.declared.status.Status.TheVariants as status
use Rattle.viz_told.specs.Calls.{IsCalled}
use Rattle.viz_told.specs.Complete.{EndsUnserved}
use Rattle.viz_told.specs.Ports.{FirstRose}
use Rattle.viz_migrate.specs.Migrate.{Migrate}

-- a journal was read: Done, since nothing can be refused then, unless memory ran out
abbrev pub EndsWritten : Status → ReadAnswer → Type 0
EndsWritten ended (read.Given bytes) = (entries : List JournalEntry)
    × (journal_read bytes ≡ Ok entries) × ((ended ≡ status.Done) ⊎ (ended ≡ status.Memory))
EndsWritten ended answer = ⊥

-- how a run ends where no call failed, by what the journal's read answered, if it did
abbrev pub EndsBy : Status → Option ReadAnswer → Type 0
EndsBy ended None = ended ≡ status.Memory
EndsBy ended (Some answer) = EndsUnserved (IsRefusedBy answer) ended ⊎ EndsWritten ended answer

-- where there is a port, and no count of faults rose, of the desk, the first port or the output, a
-- run ends so
abbrev pub IsComplete : {P O : Type 0} → port.Ghosts P → out.Ghosts O → Migrate → P → P → List P
    → List P → O → O → Status → Type 0
IsComplete m o c desk new_desk old new before after ended =
    (old ≡ [] → ⊥) → (Rose (m.faults desk) (m.faults new_desk) → ⊥) → (FirstRose m old new → ⊥)
    → (Rose (o.faults before) (o.faults after) → ⊥)
    → (answer : Option ReadAnswer) × IsCalled m (asked c.journal answer) desk new_desk
    × EndsBy ended answer
