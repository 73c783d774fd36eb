-- What a run of a journal's prefix promises of its status, its line, its calls and the files
-- (docs/FORMATS.md, "Report").
use Rattle.std.specs.Prelude.{◌≡◌, ◌≢◌, ℕ, List, [], ◌⊎◌, None, Some, Ok, IsTrue}
use Rattle.viz_base.specs.Faults.{Rose}
use Rattle.viz_base.specs.declared.port.Port as port
use Rattle.viz_base.specs.declared.out.Out as out
use Rattle.viz_base.specs.declared.call.ReadAnswer.{ReadAnswer}
use Rattle.viz_base.specs.declared.call.ReadAnswer.TheVariants as read
use Rattle.viz_journal.specs.declared.entry.JournalEntry.{JournalEntry}
use Rattle.viz_journal.specs.Reading.{journal_read}
use Rattle.viz_report.specs.declared.line.Line.{Line}
use Rattle.viz_report.specs.declared.line.Line.TheVariants as line
use Rattle.viz_report.specs.declared.line.Reason.{Reason}
use Rattle.viz_words.specs.declared.refusal.ScriptRefusal.{ScriptRefusal}
use Rattle.viz_words.specs.Refusals.{refused_script}
use Rattle.viz_told.specs.declared.status.Status.{Status}
use Rattle.viz_told.specs.declared.status.Status.TheVariants as status
use Rattle.viz_told.specs.Calls.{IsCalled, HasAnswered}
use Rattle.viz_told.specs.Lines.{no_port_line, read_fault_line}
use Rattle.viz_told.specs.Puts.{GainsLine, PutsOrBreaks, EndsInScript}
use Rattle.viz_replay.specs.Replay.{Replay, asked, IsRefusal, IsUpdated}
use Rattle.viz_replay.specs.Told.{file_line, refused_line, update_line, update_status}

-- the journal was read, the sink was updated on the network of its first entries, with this line,
-- and nothing else was done
abbrev pub IsUpdatedFrom : {P : Type 0} → port.Ghosts P → Replay → Line → P → P → List P → List P
    → Type 0
IsUpdatedFrom m c l desk new_desk old new =
    (bytes : List ℕ) × (entries : List JournalEntry) × (journal_read bytes ≡ Ok entries)
    × IsUpdated m c entries l old new
    × IsCalled m (asked c.journal (Some (read.Given bytes))) desk new_desk

-- a run that answers Done wrote the file of the sink, and told its numbers
abbrev pub IsDone : {P O : Type 0} → port.Ghosts P → out.Ghosts O → Replay → P → P → List P
    → List P → O → O → Type 0
IsDone m o c desk new_desk old new before after =
    (at : ℕ) × (cells : ℕ) × (points : ℕ) × (ran : ℕ)
    × IsUpdatedFrom m c (line.File at cells points ran) desk new_desk old new
    × GainsLine o (file_line at cells points) before after

-- a run that answers Refused found no file of the sink, and told why
abbrev pub IsRefused : {P O : Type 0} → port.Ghosts P → out.Ghosts O → Replay → P → P → List P
    → List P → O → O → Type 0
IsRefused m o c desk new_desk old new before after =
    (reason : Reason) × (at : ℕ) × IsUpdatedFrom m c (line.Refused reason at) desk new_desk old new
    × GainsLine o (refused_line reason at) before after

-- a run that answers Script: there is no port, and the desk wasn't used; or the journal is refused
-- for this
abbrev pub IsScript : {P O : Type 0} → port.Ghosts P → out.Ghosts O → Replay → P → P → List P
    → List P → O → O → Type 0
IsScript m o c desk new_desk old new before after =
    ((old ≡ []) × (new ≡ []) × IsCalled m (asked c.journal None) desk new_desk
    × PutsOrBreaks o no_port_line before after)
    ⊎ ((answer : ReadAnswer) × (n : ℕ) × (r : ScriptRefusal) × IsRefusal answer n r × (new ≡ old)
    × IsCalled m (asked c.journal (Some answer)) desk new_desk
    × PutsOrBreaks o (refused_script n r) before after)

-- where there is no port, that is told; and where the journal's read was answered so, and the desk
-- was asked for nothing else, a refusal of it is told, and no port was called
pub record TellsRefusals {P O : Type 0} (m : port.Ghosts P) (o : out.Ghosts O) (c : Replay)
    (desk new_desk : P) (old new : List P)
    (before after : O) (ended : Status) : Type 0 where
  pub no_port : old ≡ [] → EndsInScript o no_port_line before after ended
  pub journal : (answer : ReadAnswer) (line : ℕ) (r : ScriptRefusal) → IsRefusal answer line r
      → IsTrue m.tells_calls
      → HasAnswered m c.journal answer desk new_desk → (new ≡ old)
      × EndsInScript o (refused_script line r) before after ended

-- a run that answers Fault: the read of the journal failed, and that was told; or the sink was
-- updated, and the write of its file failed, or the put of its line
abbrev pub IsFault : {P O : Type 0} → port.Ghosts P → out.Ghosts O → Replay → P → P → List P
    → List P → O → O → Type 0
IsFault m o c desk new_desk old new before after =
    (IsCalled m (asked c.journal (Some read.Failed)) desk new_desk × (new ≡ old)
    × PutsOrBreaks o read_fault_line before after)
    ⊎ ((l : Line) × IsUpdatedFrom m c l desk new_desk old new × (update_status l ≢ status.Memory)
    × ((l ≡ line.WriteFault) ⊎ Rose (o.faults before) (o.faults after))
    × PutsOrBreaks o (update_line l) before after)
