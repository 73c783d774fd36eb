-- A journal that was read, and what came then.
use Rattle.std.proofs.Common.{◌≡◌, ℕ, List, Some, Ok, inr}
use Rattle.viz_base.specs.declared.port.Port as port
use Rattle.viz_base.specs.declared.call.ReadAnswer.TheVariants as read
use Rattle.viz_journal.specs.declared.entry.JournalEntry.{JournalEntry}
use Rattle.viz_journal.specs.Reading.{journal_read}
use Rattle.viz_migrate.specs.declared.came.Came.{Came}
use Rattle.viz_migrate.specs.declared.came.Came.TheVariants as came
use Rattle.viz_migrate.specs.Migrate.{Migrate, IsEndAtPort}
use Rattle.viz_migrate.specs.Views.{IsEndOfWrite}

pub ends_after : {P : Type 0} (m : port.Ghosts P) (c : Migrate) (bytes : List ℕ) (entries : List JournalEntry) (ended : Came) (old new : P) → journal_read bytes ≡ Ok entries
    → IsEndOfWrite m c entries ended old new → IsEndAtPort m c (Some (read.Given bytes)) ended old new
ends_after m c bytes entries (came.Migrated count) old new reads w = (entries, reads, w.0, w.1)
ends_after m c bytes entries came.Unwritten old new reads w = (entries, reads, w)
ends_after m c bytes entries came.Memory old new reads w = inr (entries, reads, w)
ends_after m c bytes entries came.NoPort old new reads w = absurd w
ends_after m c bytes entries came.Unread old new reads w = absurd w
ends_after m c bytes entries (came.Refused n r) old new reads w = absurd w
