-- When a run of a journal's prefix answers Done, when Refused and when Script (docs/FORMATS.md,
-- "Report").
use Rattle.std.specs.Prelude.{◌≡◌, ℕ, List, [], ◌⊎◌, Option, None, Some, Ok}
use Rattle.viz_base.specs.Faults.{Rose}
use Rattle.viz_base.specs.declared.port.Port as port
use Rattle.viz_base.specs.declared.out.Out as out
use Rattle.viz_base.specs.declared.call.ReadAnswer.{ReadAnswer}
use Rattle.viz_base.specs.declared.call.ReadAnswer.TheVariants as read
use Rattle.viz_journal.specs.declared.entry.JournalEntry.{JournalEntry}
use Rattle.viz_journal.specs.Reading.{journal_read}
use Rattle.viz_words.specs.declared.refusal.ScriptRefusal.{ScriptRefusal}
use Rattle.viz_account.specs.Complete.{HasFile}
use Rattle.viz_told.specs.declared.status.Status.{Status}
use Rattle.viz_told.specs.declared.status.Status.TheVariants as status
use Rattle.viz_told.specs.Calls.{IsCalled}
use Rattle.viz_told.specs.Complete.{EndsComplete, EndsUnserved}
use Rattle.viz_told.specs.Ports.{FirstRose}
use Rattle.viz_replay.specs.Replay.{Replay, asked, network_at, IsRefusal}

-- a journal is refused, by what its read answered
abbrev pub IsRefusedBy : ReadAnswer → Type 0
IsRefusedBy answer = (line : ℕ) × (r : ScriptRefusal) × IsRefusal answer line r

-- a journal was read, and served: Done, where the network of its first entries has the sink, and
-- the sink has a file there; and Refused, where it hasn't
abbrev pub EndsServed : Replay → Status → ReadAnswer → Type 0
EndsServed c ended (read.Given bytes) = (entries : List JournalEntry)
    × (journal_read bytes ≡ Ok entries)
    × EndsComplete (HasFile (network_at c.count entries) c.sink) ended
EndsServed c ended answer = ⊥

-- how a run ends where no call failed, by what the journal's read answered, if it did
abbrev pub EndsBy : Replay → Status → Option ReadAnswer → Type 0
EndsBy c ended None = ended ≡ status.Memory
EndsBy c ended (Some answer) = EndsUnserved (IsRefusedBy answer) ended ⊎ EndsServed c ended answer

-- where there is a port, and no count of faults rose, of the desk, the first port or the output, a
-- run ends so
abbrev pub IsComplete : {P O : Type 0} → port.Ghosts P → out.Ghosts O → Replay → P → P → List P
    → List P → O → O → Status → Type 0
IsComplete m o c desk new_desk old new before after ended =
    (old ≡ [] → ⊥) → (Rose (m.faults desk) (m.faults new_desk) → ⊥) → (FirstRose m old new → ⊥)
    → (Rose (o.faults before) (o.faults after) → ⊥)
    → (answer : Option ReadAnswer) × IsCalled m (asked c.journal answer) desk new_desk
    × EndsBy c ended answer
