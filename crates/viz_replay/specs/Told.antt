-- The line that a run of a journal's prefix puts, and its status (docs/FORMATS.md, "Report").
use Rattle.std.specs.Prelude.{ℕ, Bool, true, false, List, ◌++◌, codes}
use Rattle.std.specs.Fmt.{decimal}
use Rattle.viz_report.specs.declared.line.Line.{Line}
use Rattle.viz_report.specs.declared.line.Line.TheVariants as line
use Rattle.viz_report.specs.declared.line.Reason.{Reason}
use Rattle.viz_report.specs.Words.{reason_text}
use Rattle.viz_words.specs.Refusals.{refused_script}
use Rattle.viz_told.specs.declared.status.Status.{Status}
use Rattle.viz_told.specs.declared.status.Status.TheVariants as status
use Rattle.viz_told.specs.Lines.{no_port_line, read_fault_line, write_fault_line, memory_line}
use Rattle.viz_told.specs.Told.{Telling}
use Rattle.viz_replay.specs.declared.came.Came.{Came}
use Rattle.viz_replay.specs.declared.came.Came.TheVariants as came

-- a file was written, of the network of so many entries
unfoldable pub file_line : ℕ → ℕ → ℕ → List ℕ
file_line at cells points =
    codes "file at " ++ decimal at ++ codes " cells " ++ decimal cells ++ codes " points "
    ++ decimal points ++ codes "\n"

-- the sink has no file in the network of so many entries
unfoldable pub refused_line : Reason → ℕ → List ℕ
refused_line reason at = codes "refused " ++ reason_text reason ++ codes " at " ++ decimal at
    ++ codes "\n"

-- the line of an update; lines of other commands aren't told
abbrev pub update_line : Line → List ℕ
update_line (line.File at cells points ran) = file_line at cells points
update_line (line.Refused reason at) = refused_line reason at
update_line line.WriteFault = write_fault_line
update_line l = memory_line

-- the line of a run
abbrev pub line_of : Came → List ℕ
line_of came.NoPort = no_port_line
line_of came.Unread = read_fault_line
line_of (came.Refused line r) = refused_script line r
line_of (came.Updated l) = update_line l
line_of came.Memory = memory_line

-- the status of an update
abbrev pub update_status : Line → Status
update_status (line.File at cells points ran) = status.Done
update_status (line.Refused reason at) = status.Refused
update_status line.WriteFault = status.Fault
update_status l = status.Memory

-- the status where the whole line is put
abbrev pub status_of : Came → Status
status_of came.NoPort = status.Script
status_of came.Unread = status.Fault
status_of (came.Refused line r) = status.Script
status_of (came.Updated l) = update_status l
status_of came.Memory = status.Memory

-- whether the line of an update is made
abbrev pub is_made_line : Line → Bool
is_made_line (line.File at cells points ran) = true
is_made_line (line.Refused reason at) = true
is_made_line l = false

-- whether the line of a run is made
abbrev pub is_made : Came → Bool
is_made (came.Refused line r) = true
is_made (came.Updated l) = is_made_line l
is_made c = false

-- what is told of a run
abbrev pub telling_of : Came → Telling
telling_of c = record { text = line_of c; status = status_of c; is_made = is_made c }
