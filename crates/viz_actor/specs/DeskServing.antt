-- What is done of a script behind its reading. Words of private contracts alone.
use Rattle.std.specs.Prelude.{◌≡◌, ℕ, List, [], ◌∷◌, ◌⊎◌}
use Rattle.viz_base.specs.declared.port.Port as port
use Rattle.viz_base.specs.declared.call.Call.TheVariants.{Write}
use Rattle.viz_base.specs.declared.call.ReadAnswer.TheVariants as read
use Rattle.viz_base.specs.declared.call.WriteAnswer.{WriteAnswer}
use Rattle.viz_entries.specs.declared.entry.Entry.{Entry}
use Rattle.viz_report.specs.declared.line.Row.{Row}
use Rattle.viz_told.specs.Calls.{IsCalled}
use Rattle.viz_actor.specs.declared.ran.Ran.{Ran}
use Rattle.viz_actor.specs.declared.ran.Ran.TheVariants as ran
use Rattle.viz_actor.specs.Numbering.{IsJournalBy}
use Rattle.viz_actor.specs.Deeds.{Asked, Kept, IsEndOfScript, is_written}

-- how a run ended whose script has these bytes, and what it did at the desk behind the read
abbrev pub IsRanBehind : {P : Type 0} → port.Ghosts P → List ℕ → List ℕ → Ran → P → P → List P
    → List P → Type 0
IsRanBehind m bytes journal came desk new_desk old new =
    (IsEndOfScript m (Asked (read.Given bytes)) came old new × IsCalled m [] desk new_desk)
    ⊎ ((text : List ℕ) × (answer : WriteAnswer)
    × IsEndOfScript m (Kept bytes text answer) came old new
    × IsCalled m (Write journal text answer ∷ []) desk new_desk)

-- the rows, and whether the write was done
abbrev pub IsServedWith : List Row → WriteAnswer → Ran → Type 0
IsServedWith rows answer (ran.Served all kept) = (all ≡ rows) × (kept ≡ is_written answer)
IsServedWith rows answer other = ⊥

-- the journal of a history was written, or its write failed; or memory ran out
abbrev pub IsKept : {P : Type 0} → port.Ghosts P → List ℕ → List Row → List Entry → Ran → P → P
    → Type 0
IsKept m name rows history came old new =
    ((came ≡ ran.Memory) × IsCalled m [] old new)
    ⊎ ((text : List ℕ) × (answer : WriteAnswer) × IsJournalBy rows history text
    × IsServedWith rows answer came
    × IsCalled m (Write name text answer ∷ []) old new)
