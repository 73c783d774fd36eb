-- The line that a run puts that writes a journal anew, and its status (docs/FORMATS.md, "Report").
use Rattle.std.specs.Prelude.{ℕ, Bool, true, false, List, ◌++◌, codes}
use Rattle.std.specs.Fmt.{decimal}
use Rattle.viz_words.specs.Refusals.{refused_script}
use Rattle.viz_told.specs.declared.status.Status.{Status}
use Rattle.viz_told.specs.declared.status.Status.TheVariants as status
use Rattle.viz_told.specs.Lines.{no_port_line, read_fault_line, write_fault_line, memory_line}
use Rattle.viz_told.specs.Told.{Telling}
use Rattle.viz_migrate.specs.declared.came.Came.{Came}
use Rattle.viz_migrate.specs.declared.came.Came.TheVariants as came

-- a journal of so many entries was written
unfoldable pub migrated_line : ℕ → List ℕ
migrated_line count = codes "migrated " ++ decimal count ++ codes "\n"

-- the line of a run
abbrev pub line_of : Came → List ℕ
line_of came.NoPort = no_port_line
line_of came.Unread = read_fault_line
line_of (came.Refused line r) = refused_script line r
line_of (came.Migrated count) = migrated_line count
line_of came.Unwritten = write_fault_line
line_of came.Memory = memory_line

-- the status where the whole line is put
abbrev pub status_of : Came → Status
status_of came.NoPort = status.Script
status_of came.Unread = status.Fault
status_of (came.Refused line r) = status.Script
status_of (came.Migrated count) = status.Done
status_of came.Unwritten = status.Fault
status_of came.Memory = status.Memory

-- whether the line of a run is made
abbrev pub is_made : Came → Bool
is_made (came.Refused line r) = true
is_made (came.Migrated count) = true
is_made c = false

-- what is told of a run
abbrev pub telling_of : Came → Telling
telling_of c = record { text = line_of c; status = status_of c; is_made = is_made c }
