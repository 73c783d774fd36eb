-- The lines that a run puts that makes a volume, and its status (docs/FORMATS.md, "Report").
use Rattle.std.specs.Prelude.{ℕ, Bool, true, false, List, ◌++◌, codes}
use Rattle.viz_report.specs.Report.{and_number, counts_text}
use Rattle.viz_told.specs.declared.status.Status.{Status}
use Rattle.viz_told.specs.declared.status.Status.TheVariants as status
use Rattle.viz_told.specs.Lines.{no_port_line, write_fault_line, memory_line}
use Rattle.viz_told.specs.Told.{Telling}
use Rattle.viz_make.specs.declared.came.Came.{Came}
use Rattle.viz_make.specs.declared.came.Came.TheVariants as came
use Rattle.viz_make.specs.declared.made.Made.{Made}

-- what was made
abbrev pub made_text : Made → List ℕ
made_text made = and_number (codes "made points ") made.points
    ++ and_number (codes " sum ") made.sum

-- the audit of its contour: its triangles, all their sides, those in two triangles, those in one,
-- and those of them on the boundary
abbrev pub audit_text : Made → List ℕ
audit_text made = and_number (codes "audit cells ") made.cells
    ++ counts_text made.sides made.two made.lone made.border

-- both, each on a line
abbrev pub made_lines : Made → List ℕ
made_lines made = (made_text made ++ codes "\n") ++ audit_text made ++ codes "\n"

-- the text of a run
abbrev pub came_text : Came → List ℕ
came_text came.NoPort = no_port_line
came_text (came.Written made) = made_lines made
came_text came.Unwritten = write_fault_line
came_text came.Memory = memory_line

-- the status where the whole text is put
abbrev pub status_of : Came → Status
status_of came.NoPort = status.Script
status_of (came.Written made) = status.Done
status_of came.Unwritten = status.Fault
status_of came.Memory = status.Memory

-- whether the text is made
abbrev pub is_made : Came → Bool
is_made (came.Written made) = true
is_made c = false

-- what is told of a run
abbrev pub telling_of : Came → Telling
telling_of c = record { text = came_text c; status = status_of c; is_made = is_made c }
