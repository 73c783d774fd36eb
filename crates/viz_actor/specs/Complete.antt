-- When a run of a script answers Done, when Refused and when Script (docs/FORMATS.md, "Report").
use Rattle.std.specs.Prelude.{◌≡◌, ℕ, List, ◌∷◌, ◌++◌, ◌⊎◌, IsTrue}
use Rattle.viz_base.specs.Faults.{Rose}
use Rattle.viz_base.specs.declared.port.Port as port
use Rattle.viz_base.specs.declared.out.Out as out
use Rattle.viz_base.specs.declared.call.Call.{Call}
use Rattle.viz_base.specs.declared.call.Call.TheVariants.{Read}
use Rattle.viz_base.specs.declared.call.ReadAnswer.{ReadAnswer}
use Rattle.viz_script.specs.Script.{phase_limit}
use Rattle.viz_words.specs.declared.refusal.ScriptRefusal.{ScriptRefusal}
use Rattle.viz_report.specs.declared.line.Row.{Row}
use Rattle.viz_report.specs.Report.{rows_text}
use Rattle.viz_account.specs.Complete.{AllCame}
use Rattle.viz_told.specs.declared.status.Status.{Status}
use Rattle.viz_told.specs.declared.status.Status.TheVariants as status
use Rattle.viz_told.specs.Calls.{IsCalled}
use Rattle.viz_told.specs.Complete.{EndsComplete, EndsUnserved}
use Rattle.viz_told.specs.Puts.{GainsLine}
use Rattle.viz_actor.specs.Groups.{by_actor, actors_over}
use Rattle.viz_actor.specs.Deeds.{Deed, Nothing, Asked, Kept, calls_of, IsAccounted}
use Rattle.viz_actor.specs.Promises.{IsRefusal, SomeRose}

-- a script is refused, by what its read answered
abbrev pub IsRefusedBy : ℕ → ReadAnswer → Type 0
IsRefusedBy actors answer = (line : ℕ) × (r : ScriptRefusal) × IsRefusal actors answer line r

-- ---- Script

-- where the desk's first call was the script's read, answered so, Script comes exactly where the
-- script is refused, unless memory ran out
abbrev pub IsScriptExactly : {P : Type 0} → port.Ghosts P → List ℕ → P → P → List P → Status
    → Type 0
IsScriptExactly m script desk new_desk old ended =
    (answer : ReadAnswer) (more : List Call) → IsTrue m.tells_calls
    → m.calls new_desk ≡ m.calls desk ++ Read script answer ∷ more
    → (ended ≡ status.Script → IsRefusedBy (actors_over old) answer)
    × (IsRefusedBy (actors_over old) answer → (ended ≡ status.Script) ⊎ (ended ≡ status.Memory))

-- ---- Done and Refused

module _ {P O : Type 0} (m : port.Ghosts P) (o : out.Ghosts O) (old new : List P) (before after : O)
    (ended : Status) where
  -- a script of these bytes was served, with this journal: Done, where by its account all commands
  -- came to what they asked for, and Refused, where one didn't; its report was put, unless memory
  -- ran out
  abbrev pub EndsServed : List ℕ → List ℕ → Type 0
  EndsServed bytes text =
      (rows : List Row) × (a : IsAccounted m bytes rows text old new)
      × EndsComplete (AllCame a.history a.account.passes
      (by_actor (actors_over old) phase_limit a.steps) a.told) ended
      × ((ended ≡ status.Memory → ⊥) → GainsLine o (rows_text rows) before after)

  -- how a run ends where no call failed, by what was done at the desk
  abbrev pub EndsBy : Deed → Type 0
  EndsBy Nothing = ended ≡ status.Memory
  EndsBy (Asked answer) = EndsUnserved (IsRefusedBy (actors_over old) answer) ended
  EndsBy (Kept bytes text answer) = EndsServed bytes text

-- where no count of faults rose, of the desk, a port or the output, a run ends so
abbrev pub IsComplete : {P O : Type 0} → port.Ghosts P → out.Ghosts O
    → List ℕ → List ℕ → P → P → List P → List P → O → O → Status → Type 0
IsComplete m o script journal desk new_desk old new before after ended =
    (Rose (m.faults desk) (m.faults new_desk) → ⊥) → (SomeRose m old new → ⊥)
    → (Rose (o.faults before) (o.faults after) → ⊥)
    → (deed : Deed) × IsCalled m (calls_of script journal deed) desk new_desk
    × EndsBy m o old new before after ended deed
