-- The line that a run puts, and its status (docs/FORMATS.md, "Report").
use Rattle.std.specs.Prelude.{ℕ, Bool, true, false, List, ◌++◌, codes}
use Rattle.std.specs.Fmt.{decimal}
use Rattle.viz_report.specs.declared.line.Reason.{Reason}
use Rattle.viz_report.specs.Words.{reason_text}
use Rattle.viz_reshape.specs.declared.reshape.FileCounts.{FileCounts}
use Rattle.viz_reshape.specs.declared.reshape.FileCounts.TheVariants.{Cells, Strips}
use Rattle.viz_told.specs.declared.status.Status.{Status}
use Rattle.viz_told.specs.declared.status.Status.TheVariants as status
use Rattle.viz_told.specs.Lines.{no_port_line, read_fault_line, write_fault_line, memory_line}
use Rattle.viz_told.specs.Told.{Telling}
use Rattle.viz_once.specs.declared.outcome.Failed.TheVariants as call
use Rattle.viz_once.specs.declared.outcome.Outcome.{Outcome}
use Rattle.viz_once.specs.declared.outcome.Outcome.TheVariants as outcome

-- a file of cells was written
unfoldable pub file_line : ℕ → ℕ → List ℕ
file_line cells points = codes "file cells " ++ decimal cells ++ codes " points " ++ decimal points
    ++ codes "\n"

-- a file with strips was written
unfoldable pub strips_line : ℕ → ℕ → ℕ → List ℕ
strips_line strips triangles points = codes "strips " ++ decimal strips ++ codes " triangles "
    ++ decimal triangles ++ codes " points " ++ decimal points ++ codes "\n"

-- a file of these counts was written
abbrev pub counts_line : FileCounts → List ℕ
counts_line (Cells cells points) = file_line cells points
counts_line (Strips strips triangles points) = strips_line strips triangles points

-- the command is refused, in the words that a report has for it
unfoldable pub refused_line : Reason → List ℕ
refused_line why = codes "refused " ++ reason_text why ++ codes "\n"

-- the line of an outcome
abbrev pub line_of : Outcome → List ℕ
line_of outcome.NoPort = no_port_line
line_of (outcome.Written counts) = counts_line counts
line_of (outcome.Refused why) = refused_line why
line_of (outcome.Fault call.Read) = read_fault_line
line_of (outcome.Fault call.Write) = write_fault_line
line_of outcome.Memory = memory_line

-- the status where the whole line is put
abbrev pub status_of : Outcome → Status
status_of outcome.NoPort = status.Script
status_of (outcome.Written counts) = status.Done
status_of (outcome.Refused why) = status.Refused
status_of (outcome.Fault failed) = status.Fault
status_of outcome.Memory = status.Memory

-- whether the line is made, of numbers or of a reason
abbrev pub is_made : Outcome → Bool
is_made (outcome.Written counts) = true
is_made (outcome.Refused why) = true
is_made o = false

-- what is told of an outcome
abbrev pub telling_of : Outcome → Telling
telling_of o = record { text = line_of o; status = status_of o; is_made = is_made o }
