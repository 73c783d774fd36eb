-- What a run that makes a volume promises of its status, its text, its calls and the files
-- (docs/FORMATS.md, "Report").
use Rattle.std.specs.Prelude.{◌≡◌, List, [], ◌⊎◌, Some}
use Rattle.viz_base.specs.Faults.{Rose}
use Rattle.viz_base.specs.declared.port.Port as port
use Rattle.viz_base.specs.declared.out.Out as out
use Rattle.viz_base.specs.declared.call.WriteAnswer.{WriteAnswer}
use Rattle.viz_base.specs.declared.call.WriteAnswer.TheVariants as write
use Rattle.viz_told.specs.declared.status.Status.{Status}
use Rattle.viz_told.specs.Calls.{IsCalled}
use Rattle.viz_told.specs.Lines.{no_port_line, write_fault_line}
use Rattle.viz_told.specs.Ports.{FirstOnly}
use Rattle.viz_told.specs.Puts.{GainsLine, PutsOrBreaks, EndsInScript}
use Rattle.viz_make.specs.declared.came.Came.TheVariants as came
use Rattle.viz_make.specs.declared.made.Made.{Made}
use Rattle.viz_make.specs.Make.{Make, IsMade, IsClosed, written}
use Rattle.viz_make.specs.Told.{came_text}

-- the write of the volume was answered so, and nothing else was called
abbrev pub FirstWrote : {P : Type 0} → port.Ghosts P → Make → WriteAnswer → List P → List P → Type 0
FirstWrote m c answer old new = FirstOnly (IsCalled m (written c (Some answer))) old new

-- a run that answers Done wrote the volume, and told its numbers and those of its audit, by which
-- its contour is closed up to the boundary
abbrev pub IsDone : {P O : Type 0} → port.Ghosts P → out.Ghosts O → Make → List P → List P → O → O
    → Type 0
IsDone m o c old new before after =
    (made : Made) × IsMade c made × IsClosed made × FirstWrote m c write.Written old new
    × GainsLine o (came_text (came.Written made)) before after

-- a run that answers Script: there is no port
abbrev pub IsScript : {P O : Type 0} → port.Ghosts P → out.Ghosts O → List P → List P → O → O
    → Type 0
IsScript m o old new before after = (old ≡ []) × (new ≡ [])
    × PutsOrBreaks o no_port_line before after

-- where there is no port, Script comes, with its line, unless memory ran out
abbrev pub TellsRefusals : {P O : Type 0} → out.Ghosts O → List P → O → O → Status → Type 0
TellsRefusals o old before after ended = old ≡ [] → EndsInScript o no_port_line before after ended

-- a run that answers Fault: the write of the volume failed, and that was told; or the put failed
abbrev pub IsFault : {P O : Type 0} → port.Ghosts P → out.Ghosts O → Make → List P → List P → O → O
    → Type 0
IsFault m o c old new before after =
    (FirstWrote m c write.Failed old new × PutsOrBreaks o write_fault_line before after)
    ⊎ Rose (o.faults before) (o.faults after)
