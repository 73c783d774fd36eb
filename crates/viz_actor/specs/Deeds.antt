-- What a run of a script did: at the desk, at the ports, and how it ended (docs/DEFINITIONS.md,
-- "The account of a script").
use Rattle.std.specs.Prelude.{◌≡◌, ℕ, Bool, true, false, List, [], ◌∷◌, ◌⊎◌, All, map, Option}
use Rattle.std.specs.Prelude.{None, Some, Ok, Err}
use Rattle.viz_base.specs.declared.port.Port as port
use Rattle.viz_base.specs.declared.call.Call.{Call}
use Rattle.viz_base.specs.declared.call.Call.TheVariants.{Read, Write}
use Rattle.viz_base.specs.declared.call.ReadAnswer.{ReadAnswer}
use Rattle.viz_base.specs.declared.call.ReadAnswer.TheVariants as read
use Rattle.viz_base.specs.declared.call.WriteAnswer.{WriteAnswer}
use Rattle.viz_base.specs.declared.call.WriteAnswer.TheVariants as write
use Rattle.viz_entries.specs.declared.entry.Entry.{Entry}
use Rattle.viz_script.specs.Script.{Stepped, script_of, phase_limit}
use Rattle.viz_words.specs.declared.refusal.ScriptRefusal.TheVariants as refusal
use Rattle.viz_report.specs.declared.line.Line.{Line}
use Rattle.viz_report.specs.declared.line.Row.{Row}
use Rattle.viz_report.specs.Report.{report_rows}
use Rattle.viz_account.specs.Account.{IsAccountOf}
use Rattle.viz_account.specs.Laws.{CountEdits, IsClosedLine}
use Rattle.viz_told.specs.Calls.{IsCalled}
use Rattle.viz_actor.specs.declared.ran.Ran.{Ran}
use Rattle.viz_actor.specs.declared.ran.Ran.TheVariants as ran
use Rattle.viz_actor.specs.Groups.{by_actor, actors_over, history_limit}
use Rattle.viz_actor.specs.Journals.{journal_of}

-- ---- the desk

-- what was done at the desk: no call that was answered; a read of the script; or that, and a write
-- of the journal
pub data Deed : Type 0 where
  Nothing : Deed
  Asked : ReadAnswer → Deed
  Kept : List ℕ → List ℕ → WriteAnswer → Deed

-- the calls of a deed, by the names of script and journal
abbrev pub calls_of : List ℕ → List ℕ → Deed → List Call
calls_of script journal Nothing = []
calls_of script journal (Asked answer) = Read script answer ∷ []
calls_of script journal (Kept bytes text answer) = Read script
    (read.Given bytes) ∷ Write journal text answer ∷ []

-- the bytes that a deed read
abbrev pub bytes_of : Deed → Option (List ℕ)
bytes_of (Asked (read.Given bytes)) = Some bytes
bytes_of (Kept bytes text answer) = Some bytes
bytes_of deed = None

-- ---- the ports

-- the account of the script of these bytes: a history, whose journal is this text, and a line for
-- each command, of which these are the rows; what their audits counted is closed up to the
-- boundary, and where all commands are of one actor, each row shows how many entries were made up
-- to it
pub record IsAccounted {P : Type 0} (m : port.Ghosts P) (bytes : List ℕ) (rows : List Row)
    (text : List ℕ)
    (old new : List P) : Type 0 where
  pub steps : List Stepped
  pub history : List Entry
  pub told : List (List (List Line))
  pub reads : script_of (actors_over old) bytes ≡ Ok steps
  pub account : IsAccountOf m history_limit (by_actor
      (actors_over old) phase_limit steps) history told old new
  pub rows_are : rows ≡ report_rows phase_limit told
  pub closed : All (λ r. IsClosedLine r.line) rows
  pub counted : (actor : ℕ) → All (λ s. s.actor ≡ actor) steps
      → CountEdits 0 (map (λ r. r.line) rows)
  pub journal : text ≡ journal_of account.passes history

-- ---- how it ended

-- the script of these bytes was served, though memory ran out then
abbrev pub IsServed : {P : Type 0} → port.Ghosts P → List ℕ → List P → List P → Type 0
IsServed m bytes old new = (rows : List Row) × (text : List ℕ)
    × IsAccounted m bytes rows text old new

-- whether a write was done
abbrev pub is_written : WriteAnswer → Bool
is_written write.Written = true
is_written write.Failed = false

-- how a run ended that did this at the desk, and what it did at the ports: they are called only
-- for a script
abbrev pub IsEndOfScript : {P : Type 0} → port.Ghosts P → Deed → Ran → List P → List P → Type 0
IsEndOfScript m Nothing ran.Memory old new = new ≡ old
IsEndOfScript m (Asked read.Failed) ran.Unread old new = new ≡ old
IsEndOfScript m (Asked (read.TooLong taken)) (ran.Refused line r) old new = (line ≡ 0)
    × (r ≡ refusal.TooLong) × (new ≡ old)
IsEndOfScript m (Asked (read.Given bytes)) (ran.Refused line r) old new =
    (script_of (actors_over old) bytes ≡ Err (line, r)) × (new ≡ old)
IsEndOfScript m (Asked (read.Given bytes)) ran.Memory old new = (new ≡ old)
    ⊎ IsServed m bytes old new
IsEndOfScript m (Kept bytes text answer) (ran.Served rows kept) old new =
    IsAccounted m bytes rows text old new × (kept ≡ is_written answer)
IsEndOfScript m deed came old new = ⊥

-- a run of a script over a desk and ports
abbrev pub IsScriptRun : {P : Type 0} → port.Ghosts P → List ℕ → List ℕ → Ran → P → P → List P
    → List P → Type 0
IsScriptRun m script journal came desk new_desk old new =
    (deed : Deed) × IsEndOfScript m deed came old new
    × IsCalled m (calls_of script journal deed) desk new_desk
