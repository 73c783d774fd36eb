-- What a run of a script promises of its status, its text, its calls and the files
-- (docs/FORMATS.md, "Report").
use Rattle.std.specs.Prelude.{◌≡◌, ◌≢◌, ℕ, ◌+◌, true, false, List, [], ◌∷◌, ◌⊎◌, All, slice_get}
use Rattle.std.specs.Prelude.{Some, Ok, Err, IsTrue}
use Rattle.viz_base.specs.Faults.{Rose}
use Rattle.viz_base.specs.declared.port.Port as port
use Rattle.viz_base.specs.declared.out.Out as out
use Rattle.viz_base.specs.declared.call.ReadAnswer.{ReadAnswer}
use Rattle.viz_base.specs.declared.call.ReadAnswer.TheVariants as read
use Rattle.viz_base.specs.declared.call.WriteAnswer.{WriteAnswer}
use Rattle.viz_base.specs.declared.call.WriteAnswer.TheVariants as write
use Rattle.viz_script.specs.Script.{Stepped, script_of}
use Rattle.viz_words.specs.declared.refusal.ScriptRefusal.{ScriptRefusal}
use Rattle.viz_words.specs.declared.refusal.ScriptRefusal.TheVariants as refusal
use Rattle.viz_report.specs.declared.line.Row.{Row}
use Rattle.viz_report.specs.Report.{rows_text}
use Rattle.viz_actor.specs.Groups.{actors_over}
use Rattle.viz_words.specs.Refusals.{refused_script}
use Rattle.viz_told.specs.declared.status.Status.{Status}
use Rattle.viz_told.specs.Calls.{IsCalled, HasAnswered}
use Rattle.viz_told.specs.Lines.{read_fault_line}
use Rattle.viz_told.specs.Puts.{GainsLine, PutsOrBreaks, EndsInScript}
use Rattle.viz_actor.specs.Deeds.{Deed, Nothing, Asked, Kept, calls_of, bytes_of, IsAccounted}
use Rattle.viz_actor.specs.Deeds.{IsServed}
use Rattle.viz_actor.specs.Told.{served_status, has_memory, has_fault}

-- ---- scripts that are refused

-- why a script is refused, by what its read answered: it is too long for the desk, or isn't a
-- script for so many actors
abbrev pub IsRefusal : ℕ → ReadAnswer → ℕ → ScriptRefusal → Type 0
IsRefusal actors (read.TooLong taken) line r = (line ≡ 0) × (r ≡ refusal.TooLong)
IsRefusal actors (read.Given bytes) line r = script_of actors bytes ≡ Err (line, r)
IsRefusal actors read.Failed line r = ⊥

-- a run that answers Script: the script was read, and is refused for this; no port was called
abbrev pub IsScriptRefused : {P O : Type 0} → port.Ghosts P → out.Ghosts O
    → List ℕ → List ℕ → P → P → List P → List P → O → O → Type 0
IsScriptRefused m o script journal desk new_desk old new before after =
    (answer : ReadAnswer) × (line : ℕ) × (r : ScriptRefusal)
    × IsRefusal (actors_over old) answer line r
    × IsCalled m (calls_of script journal (Asked answer)) desk new_desk × (new ≡ old)
    × PutsOrBreaks o (refused_script line r) before after

-- where the script's read was answered so, and the desk was asked for nothing else, a refusal of
-- it is told; no port was called
abbrev pub TellsRefusals : {P O : Type 0} → port.Ghosts P → out.Ghosts O
    → List ℕ → P → P → List P → List P → O → O → Status → Type 0
TellsRefusals m o script desk new_desk old new before after ended =
    (answer : ReadAnswer) (line : ℕ) (r : ScriptRefusal)
    → IsRefusal (actors_over old) answer line r → IsTrue m.tells_calls
    → HasAnswered m script answer desk new_desk → (new ≡ old)
    × EndsInScript o (refused_script line r) before after ended

-- ---- scripts that are served

-- the script was read, its commands were served by this account, the journal's write was answered
-- so, and it is the last call of the desk
abbrev pub IsServedBy : {P : Type 0} → port.Ghosts P
    → List ℕ → List ℕ → List Row → WriteAnswer → P → P → List P → List P → Type 0
IsServedBy m script journal rows answer desk new_desk old new =
    (bytes : List ℕ) × (text : List ℕ) × IsAccounted m bytes rows text old new
    × IsCalled m (calls_of script journal (Kept bytes text answer)) desk new_desk

-- a run that answers Done or Refused: the journal was written, and the report put; its rows have
-- this status
abbrev pub IsReported : {P O : Type 0} → port.Ghosts P → out.Ghosts O
    → List ℕ → List ℕ → Status → P → P → List P → List P → O → O → Type 0
IsReported m o script journal ended desk new_desk old new before after =
    (rows : List Row) × IsServedBy m script journal rows write.Written desk new_desk old new
    × (served_status rows true ≡ ended)
    × GainsLine o (rows_text rows) before after

-- a served script whose run had a fault: at a row, at the journal, or at the report; no row tells
-- of want of memory
abbrev pub IsServedWithFault : {P O : Type 0} → port.Ghosts P → out.Ghosts O
    → List ℕ → List ℕ → P → P → List P → List P → O → O → Type 0
IsServedWithFault m o script journal desk new_desk old new before after =
    (rows : List Row) × (answer : WriteAnswer)
    × IsServedBy m script journal rows answer desk new_desk old new
    × (has_memory rows ≡ false)
    × ((has_fault rows ≡ true) ⊎ ((answer ≡ write.Failed)
    ⊎ Rose (o.faults before) (o.faults after)))
    × PutsOrBreaks o (rows_text rows) before after

-- the script's read failed, no port was called, and that was told
abbrev pub IsUnread : {P O : Type 0} → port.Ghosts P → out.Ghosts O
    → List ℕ → List ℕ → P → P → List P → List P → O → O → Type 0
IsUnread m o script journal desk new_desk old new before after =
    IsCalled m (calls_of script journal (Asked read.Failed)) desk new_desk × (new ≡ old)
    × PutsOrBreaks o read_fault_line before after

-- the desk was asked for nothing, or for the script alone
abbrev pub AskedAtMost : {P : Type 0} → port.Ghosts P → List ℕ → List ℕ → P → P → Type 0
AskedAtMost m script journal desk new_desk =
    IsCalled m (calls_of script journal Nothing) desk new_desk
    ⊎ ((answer : ReadAnswer) × IsCalled m (calls_of script journal (Asked answer)) desk new_desk)

-- a run that answers Memory: the desk was asked at most for the script, and no port was called; or
-- there is an account all the same, whose journal alone may have been written
abbrev pub IsCutOff : {P : Type 0} → port.Ghosts P → List ℕ → List ℕ → P → P → List P → List P
    → Type 0
IsCutOff m script journal desk new_desk old new =
    (AskedAtMost m script journal desk new_desk × (new ≡ old))
    ⊎ (((bytes : List ℕ) × IsServed m bytes old new
    × IsCalled m (calls_of script journal (Asked (read.Given bytes))) desk new_desk)
    ⊎ ((rows : List Row) × (answer : WriteAnswer)
    × IsServedBy m script journal rows answer desk new_desk old new))

-- ---- actors without commands

-- what a deed read, where it is a script, has no command of this actor
abbrev pub AsksNoneOf : ℕ → ℕ → Deed → Type 0
AsksNoneOf actors actor deed = (bytes : List ℕ) (steps : List Stepped) → bytes_of deed ≡ Some bytes
    → script_of actors bytes ≡ Ok steps → All (λ s. s.actor ≢ actor) steps

-- a port whose actor has no command in the script isn't called, nor is any before there is a
-- script: port i, from 0, is of actor i + 1
abbrev pub IdleStay : {P : Type 0} → port.Ghosts P → List ℕ → List ℕ → P → P → List P → List P
    → Type 0
IdleStay m script journal desk new_desk old new =
    (deed : Deed) × IsCalled m (calls_of script journal deed) desk new_desk
    × ((i : ℕ) → AsksNoneOf (actors_over old) (i + 1) deed → slice_get new i ≡ slice_get old i)

-- ---- counts

-- the count of faults of some port rose
abbrev pub SomeRose : {P : Type 0} → port.Ghosts P → List P → List P → Type 0
SomeRose m [] new = ⊥
SomeRose m (p ∷ ps) [] = ⊥
SomeRose m (p ∷ ps) (q ∷ qs) = Rose (m.faults p) (m.faults q) ⊎ SomeRose m ps qs
