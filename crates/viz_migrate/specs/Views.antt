-- Words of private contracts alone.
use Rattle.std.specs.Prelude.{◌≡◌, List, [], length}
use Rattle.viz_base.specs.declared.port.Port as port
use Rattle.viz_base.specs.declared.call.WriteAnswer.TheVariants as write
use Rattle.viz_journal.specs.declared.entry.JournalEntry.{JournalEntry}
use Rattle.viz_told.specs.Calls.{IsCalled}
use Rattle.viz_migrate.specs.declared.came.Came.{Came}
use Rattle.viz_migrate.specs.declared.came.Came.TheVariants as came
use Rattle.viz_migrate.specs.declared.serving.Migrate.{Migrate as Words}
use Rattle.viz_migrate.specs.Migrate.{Migrate, WritesJournal}

-- the words as contracts see them
abbrev pub migrate_view : Words → Migrate
migrate_view c = record { journal = c.journal.now; output = c.output.now }

-- the port was asked for the write of the journal of these entries, or memory ran out
abbrev pub IsEndOfWrite : {P : Type 0} → port.Ghosts P → Migrate → List JournalEntry → Came → P
    → P → Type 0
IsEndOfWrite m c entries (came.Migrated count) old new = (count ≡ length entries)
    × WritesJournal m c entries write.Written old new
IsEndOfWrite m c entries came.Unwritten old new = WritesJournal m c entries write.Failed old new
IsEndOfWrite m c entries came.Memory old new = IsCalled m [] old new
IsEndOfWrite m c entries ended old new = ⊥
