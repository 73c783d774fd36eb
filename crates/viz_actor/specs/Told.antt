-- The text that a run of a script puts, and its status (docs/FORMATS.md, "Report").
use Rattle.std.specs.Prelude.{ℕ, Bool, true, false, not, cond, ◌||◌, List}
use Rattle.std.specs.List.{list_any}
use Rattle.viz_words.specs.Refusals.{refused_script}
use Rattle.viz_report.specs.declared.line.Line.{Line}
use Rattle.viz_report.specs.declared.line.Line.TheVariants as line
use Rattle.viz_report.specs.declared.line.Row.{Row}
use Rattle.viz_report.specs.Report.{rows_text}
use Rattle.viz_told.specs.declared.status.Status.{Status}
use Rattle.viz_told.specs.declared.status.Status.TheVariants as status
use Rattle.viz_told.specs.Lines.{read_fault_line, memory_line}
use Rattle.viz_told.specs.Told.{Telling}
use Rattle.viz_actor.specs.declared.ran.Ran.{Ran}
use Rattle.viz_actor.specs.declared.ran.Ran.TheVariants as ran

-- ---- the text

-- the text of a run
abbrev pub ran_text : Ran → List ℕ
ran_text ran.Unread = read_fault_line
ran_text (ran.Refused line r) = refused_script line r
ran_text (ran.Served rows kept) = rows_text rows
ran_text ran.Memory = memory_line

-- ---- the status

abbrev pub is_memory : Line → Bool
is_memory line.Memory = true
is_memory l = false

abbrev pub is_fault : Line → Bool
is_fault line.ReadFault = true
is_fault line.WriteFault = true
is_fault l = false

abbrev pub is_refused : Line → Bool
is_refused (line.Refused reason at) = true
is_refused l = false

-- whether a row tells of want of memory, of a fault, of a refusal
abbrev pub has_memory : List Row → Bool
has_memory rows = list_any (λ r. is_memory r.line) rows

abbrev pub has_fault : List Row → Bool
has_fault rows = list_any (λ r. is_fault r.line) rows

abbrev pub has_refused : List Row → Bool
has_refused rows = list_any (λ r. is_refused r.line) rows

-- the status of rows, the whole of which was put, by whether the journal was written: want of
-- memory comes first, then faults, then refusals
abbrev pub served_status : List Row → Bool → Status
served_status rows kept = cond (has_memory rows) status.Memory
    (cond (has_fault rows || not kept) status.Fault
    (cond (has_refused rows) status.Refused status.Done))

-- the status where the whole text is put
abbrev pub status_of : Ran → Status
status_of ran.Unread = status.Fault
status_of (ran.Refused line r) = status.Script
status_of (ran.Served rows kept) = served_status rows kept
status_of ran.Memory = status.Memory

-- whether the text is made
abbrev pub is_made : Ran → Bool
is_made (ran.Refused line r) = true
is_made (ran.Served rows kept) = true
is_made r = false

-- what is told of a run
abbrev pub telling_of : Ran → Telling
telling_of r = record { text = ran_text r; status = status_of r; is_made = is_made r }
