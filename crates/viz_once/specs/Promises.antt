-- What a run of a command of one file promises of its status, its line, its calls and the files
-- (docs/FORMATS.md, "Report").
use Rattle.std.specs.Prelude.{◌≡◌, ℕ, List, [], ◌⊎◌, Ok, IsTrue}
use Rattle.viz_base.specs.Faults.{Rose}
use Rattle.viz_base.specs.declared.port.Port as port
use Rattle.viz_base.specs.declared.out.Out as out
use Rattle.viz_base.specs.declared.call.ReadAnswer.{ReadAnswer}
use Rattle.viz_base.specs.declared.call.WriteAnswer.TheVariants.{Written}
use Rattle.viz_report.specs.declared.line.Reason.{Reason}
use Rattle.viz_reshape.specs.declared.reshape.FileCounts.{FileCounts}
use Rattle.viz_told.specs.declared.status.Status.{Status}
use Rattle.viz_told.specs.declared.status.Status.TheVariants as status
use Rattle.viz_told.specs.Calls.{IsCalled, HasFailed, HasAnswered}
use Rattle.viz_told.specs.Lines.{no_port_line, read_fault_line, write_fault_line}
use Rattle.viz_told.specs.Ports.{FirstOnly}
use Rattle.viz_told.specs.Puts.{GainsLine, PutsOrBreaks, EndsInScript}
use Rattle.viz_once.specs.Account.{Deed, Nothing, Asked, Answered, calls_of}
use Rattle.viz_once.specs.Command.{Command}
use Rattle.viz_once.specs.Files.{IsFileFor, IsMadeFor}
use Rattle.viz_once.specs.Reasons.{IsReason}
use Rattle.viz_once.specs.Report.{counts_line, refused_line}

-- ---- of lists of ports

-- the first port did this, and no other was called
abbrev pub FirstDid : {P : Type 0} → port.Ghosts P → Command → Deed → List P → List P → Type 0
FirstDid m c deed old new = FirstOnly (IsCalled m (calls_of c deed)) old new

-- the first port was asked for the input alone, and answered so
abbrev pub FirstAnswered : {P : Type 0} → port.Ghosts P → Command → ReadAnswer → List P → List P
    → Type 0
FirstAnswered m c answer old new = FirstOnly (HasAnswered m c.input answer) old new

-- ---- of the statuses

-- a run that answers Script: there is no port
abbrev pub IsScript : {P O : Type 0} → port.Ghosts P → out.Ghosts O → List P → List P → O → O
    → Type 0
IsScript m o old new before after = (old ≡ []) × (new ≡ [])
    × PutsOrBreaks o no_port_line before after

-- a run that answers Done read some bytes, wrote the file that the filter makes of them, and told
-- its counts
abbrev pub IsDone : {P O : Type 0} → port.Ghosts P → out.Ghosts O → Command → List P → List P → O
    → O → Type 0
IsDone m o c old new before after =
    (bytes text : List ℕ) × (counts : FileCounts) × IsMadeFor c.filter bytes text counts
    × FirstDid m c (Answered bytes text Written) old new
    × GainsLine o (counts_line counts) before after

-- a run that answers Refused read its input and did nothing else; a reason for it holds, and was
-- told
abbrev pub IsRefused : {P O : Type 0} → port.Ghosts P → out.Ghosts O → Command → List P → List P
    → O → O → Type 0
IsRefused m o c old new before after =
    (answer : ReadAnswer) × (why : Reason) × IsReason c.filter answer why
    × FirstDid m c (Asked answer) old new × GainsLine o (refused_line why) before after

-- the status where a reason holds: Refused, with its line; Fault, where the put failed; or Memory
abbrev pub EndsRefused : {O : Type 0} → out.Ghosts O → Reason → O → O → Status → Type 0
EndsRefused m why old new ended =
    ((ended ≡ status.Refused) × GainsLine m (refused_line why) old new)
    ⊎ (((ended ≡ status.Fault) × Rose (m.faults old) (m.faults new)) ⊎ (ended ≡ status.Memory))

-- where there is no port, that is told; and where the read of the input was answered so, and
-- nothing else was called, a reason for a refusal is told
pub record TellsRefusals {P O : Type 0} (m : port.Ghosts P) (o : out.Ghosts O) (c : Command)
    (old new : List P)
    (before after : O) (ended : Status) : Type 0 where
  pub no_port : old ≡ [] → EndsInScript o no_port_line before after ended
  pub reasons : (answer : ReadAnswer) (why : Reason) → IsReason c.filter answer why
      → IsTrue m.tells_calls
      → FirstAnswered m c answer old new → EndsRefused o why before after ended

-- the line of a failed call
abbrev pub fault_line : Deed → List ℕ
fault_line Nothing = []
fault_line (Asked answer) = read_fault_line
fault_line (Answered bytes text answer) = write_fault_line

-- the text of a write, if there was one, is the file that the filter makes of the bytes
abbrev pub WritesFile : Command → Deed → Type 0
WritesFile c (Answered bytes text answer) = IsFileFor c.filter bytes (Ok text)
WritesFile c deed = Unit {0}

-- a run that answers Fault: a call of the first port failed, and that was told; or the put failed
abbrev pub IsFault : {P O : Type 0} → port.Ghosts P → out.Ghosts O → Command → List P → List P → O
    → O → Type 0
IsFault m o c old new before after =
    ((deed : Deed) × HasFailed (calls_of c deed) × WritesFile c deed × FirstDid m c deed old new
    × GainsLine o (fault_line deed) before after)
    ⊎ Rose (o.faults before) (o.faults after)
