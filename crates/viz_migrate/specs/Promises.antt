-- What a run that writes a journal anew promises of its status, its line, its calls and the files
-- (docs/FORMATS.md, "Report").
use Rattle.std.specs.Prelude.{◌≡◌, ℕ, List, [], length, ◌⊎◌, Some, Ok, IsTrue}
use Rattle.viz_base.specs.Faults.{Rose}
use Rattle.viz_base.specs.declared.port.Port as port
use Rattle.viz_base.specs.declared.out.Out as out
use Rattle.viz_base.specs.declared.call.ReadAnswer.{ReadAnswer}
use Rattle.viz_base.specs.declared.call.ReadAnswer.TheVariants as read
use Rattle.viz_base.specs.declared.call.WriteAnswer.{WriteAnswer}
use Rattle.viz_base.specs.declared.call.WriteAnswer.TheVariants as write
use Rattle.viz_journal.specs.declared.entry.JournalEntry.{JournalEntry}
use Rattle.viz_journal.specs.Journal.{journal}
use Rattle.viz_journal.specs.Reading.{journal_read}
use Rattle.viz_replay.specs.Replay.{asked, IsRefusal}
use Rattle.viz_words.specs.declared.refusal.ScriptRefusal.{ScriptRefusal}
use Rattle.viz_words.specs.Refusals.{refused_script}
use Rattle.viz_told.specs.declared.status.Status.{Status}
use Rattle.viz_told.specs.Calls.{IsCalled, HasAnswered}
use Rattle.viz_told.specs.Lines.{no_port_line, read_fault_line, write_fault_line}
use Rattle.viz_told.specs.Ports.{FirstOnly}
use Rattle.viz_told.specs.Puts.{GainsLine, PutsOrBreaks, EndsInScript}
use Rattle.viz_migrate.specs.Migrate.{Migrate, WritesJournal}
use Rattle.viz_migrate.specs.Told.{migrated_line}

-- the desk was asked for the journal alone, and gave one of these entries; and the first port was
-- asked for one write, of the file with the journal of these entries, which was answered so
abbrev pub IsMigrated : {P : Type 0} → port.Ghosts P → Migrate → List JournalEntry → WriteAnswer
    → P → P → List P → List P → Type 0
IsMigrated m c entries answer desk new_desk old new =
    (bytes : List ℕ) × (journal_read bytes ≡ Ok entries)
    × IsCalled m (asked c.journal (Some (read.Given bytes))) desk new_desk
    × FirstOnly (WritesJournal m c entries answer) old new

-- a run that answers Done wrote the journal's entries, in a text that is read as the same entries,
-- and told how many they are
abbrev pub IsDone : {P O : Type 0} → port.Ghosts P → out.Ghosts O → Migrate → P → P → List P
    → List P → O → O → Type 0
IsDone m o c desk new_desk old new before after =
    (entries : List JournalEntry) × IsMigrated m c entries write.Written desk new_desk old new
    × (journal_read (journal entries) ≡ Ok entries)
    × GainsLine o (migrated_line (length entries)) before after

-- a run that answers Script: there is no port, and the desk wasn't used; or the journal is refused
-- for this
abbrev pub IsScript : {P O : Type 0} → port.Ghosts P → out.Ghosts O → Migrate → P → P → List P
    → List P → O → O → Type 0
IsScript m o c desk new_desk old new before after =
    ((old ≡ []) × (new ≡ []) × (new_desk ≡ desk) × PutsOrBreaks o no_port_line before after)
    ⊎ ((answer : ReadAnswer) × (n : ℕ) × (r : ScriptRefusal) × IsRefusal answer n r × (new ≡ old)
    × IsCalled m (asked c.journal (Some answer)) desk new_desk
    × PutsOrBreaks o (refused_script n r) before after)

-- where there is no port, that is told; and where the journal's read was answered so, and the desk
-- was asked for nothing else, a refusal of it is told, and no port was called
pub record TellsRefusals {P O : Type 0} (m : port.Ghosts P) (o : out.Ghosts O) (c : Migrate)
    (desk new_desk : P) (old new : List P)
    (before after : O) (ended : Status) : Type 0 where
  pub no_port : old ≡ [] → EndsInScript o no_port_line before after ended
  pub journal : (answer : ReadAnswer) (line : ℕ) (r : ScriptRefusal) → IsRefusal answer line r
      → IsTrue m.tells_calls
      → HasAnswered m c.journal answer desk new_desk → (new ≡ old)
      × EndsInScript o (refused_script line r) before after ended

-- a run that answers Fault: the read of the journal failed, or the write of its entries, and that
-- was told; or they were written, and the put of the line failed
abbrev pub IsFault : {P O : Type 0} → port.Ghosts P → out.Ghosts O → Migrate → P → P → List P
    → List P → O → O → Type 0
IsFault m o c desk new_desk old new before after =
    (IsCalled m (asked c.journal (Some read.Failed)) desk new_desk × (new ≡ old)
    × PutsOrBreaks o read_fault_line before after)
    ⊎ (((entries : List JournalEntry) × IsMigrated m c entries write.Failed desk new_desk old new
    × PutsOrBreaks o write_fault_line before after)
    ⊎ ((entries : List JournalEntry) × IsMigrated m c entries write.Written desk new_desk old new
    × Rose (o.faults before) (o.faults after)
    × PutsOrBreaks o (migrated_line (length entries)) before after))
