-- What a run that writes a journal anew did: at the desk and at the first port
-- (docs/DEFINITIONS.md, "The account of a run").
use Rattle.std.specs.Prelude.{◌≡◌, ℕ, List, [], ◌∷◌, ◌⊎◌, length, Option, None, Some, Ok}
use Rattle.viz_base.specs.declared.port.Port as port
use Rattle.viz_base.specs.declared.call.Call.TheVariants.{Write}
use Rattle.viz_base.specs.declared.call.ReadAnswer.{ReadAnswer}
use Rattle.viz_base.specs.declared.call.ReadAnswer.TheVariants as read
use Rattle.viz_base.specs.declared.call.WriteAnswer.{WriteAnswer}
use Rattle.viz_base.specs.declared.call.WriteAnswer.TheVariants as write
use Rattle.viz_journal.specs.declared.entry.JournalEntry.{JournalEntry}
use Rattle.viz_journal.specs.Journal.{journal}
use Rattle.viz_journal.specs.Reading.{journal_read}
use Rattle.viz_replay.specs.Replay.{asked, IsRefusal}
use Rattle.viz_told.specs.Calls.{IsCalled}
use Rattle.viz_migrate.specs.declared.came.Came.{Came}
use Rattle.viz_migrate.specs.declared.came.Came.TheVariants as came

-- the words of the command: the journal's name, and that of the file
pub record Migrate : Type 0 where
  pub journal : List ℕ
  pub output : List ℕ

-- a port was asked for one write, of the file with the journal of these entries, which was
-- answered so, and for nothing else
abbrev pub WritesJournal : {P : Type 0} → port.Ghosts P → Migrate → List JournalEntry
    → WriteAnswer → P → P → Type 0
WritesJournal m c entries answer old new =
    IsCalled m (Write c.output (journal entries) answer ∷ []) old new

-- ---- how it ended

-- how a run over a port ended whose journal's read was answered so, and what was done at the port:
-- it is called only for a journal
abbrev pub IsEndAtPort : {P : Type 0} → port.Ghosts P → Migrate → Option ReadAnswer → Came → P
    → P → Type 0
IsEndAtPort m c None came.Memory old new = new ≡ old
IsEndAtPort m c (Some read.Failed) came.Unread old new = new ≡ old
IsEndAtPort m c (Some answer) (came.Refused line r) old new = IsRefusal answer line r × (new ≡ old)
IsEndAtPort m c (Some (read.Given bytes)) came.Memory old new =
    (new ≡ old)
    ⊎ ((entries : List JournalEntry) × (journal_read bytes ≡ Ok entries) × IsCalled m [] old new)
IsEndAtPort m c (Some (read.Given bytes)) (came.Migrated count) old new =
    (entries : List JournalEntry) × (journal_read bytes ≡ Ok entries) × (count ≡ length entries)
    × WritesJournal m c entries write.Written old new
IsEndAtPort m c (Some (read.Given bytes)) came.Unwritten old new =
    (entries : List JournalEntry) × (journal_read bytes ≡ Ok entries)
    × WritesJournal m c entries write.Failed old new
IsEndAtPort m c answer ended old new = ⊥

-- a run over a desk and a port
abbrev pub IsPortRun : {P : Type 0} → port.Ghosts P → Migrate → Came → P → P → P → P → Type 0
IsPortRun m c ended desk new_desk old new =
    (answer : Option ReadAnswer) × IsEndAtPort m c answer ended old new
    × IsCalled m (asked c.journal answer) desk new_desk

-- a run over a desk and ports: the first one was used so, and all others are as before; where there
-- is none, the desk isn't used
abbrev pub IsMigrateRun : {P : Type 0} → port.Ghosts P → Migrate → Came → P → P → List P → List P
    → Type 0
IsMigrateRun m c ended desk new_desk [] new = (ended ≡ came.NoPort) × (new ≡ [])
    × (new_desk ≡ desk)
IsMigrateRun m c ended desk new_desk (p ∷ ps) [] = ⊥
IsMigrateRun m c ended desk new_desk (p ∷ ps) (q ∷ qs) =
    IsPortRun m c ended desk new_desk p q × (qs ≡ ps)
