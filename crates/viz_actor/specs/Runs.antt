-- Phases, one after the other. Words of private contracts alone.
use Rattle.std.specs.Prelude.{◌≡◌, ℕ, List, [], ◌∷◌, length, map}
use Rattle.viz_base.specs.declared.port.Port as port
use Rattle.viz_hub.specs.Passes.{PassKnown}
use Rattle.viz_entries.specs.declared.entry.Entry.{Entry}
use Rattle.viz_script.specs.declared.order.Step.{Step}
use Rattle.viz_script.specs.Script.{Stepped, phase_limit}
use Rattle.viz_report.specs.declared.line.Line.{Line}
use Rattle.viz_report.specs.declared.line.Row.{Row}
use Rattle.viz_report.specs.Report.{report_rows}
use Rattle.viz_account.specs.Account.{IsAccountOf}
use Rattle.viz_actor.specs.declared.places.Place.{Place}
use Rattle.viz_actor.specs.Groups.{by_actor, history_limit}
use Rattle.viz_actor.specs.Places.{IsPhase}

module _ {P : Type 0} (m : port.Ghosts P) (limit : ℕ) where
  -- the steps of a phase were served, where there are any
  abbrev pub RunsChunk : List Step → PassKnown → List (Place P) → List Row
      → List (Place P) → List Row → PassKnown → Type 0
  RunsChunk [] root old rows new now joined = (joined ≡ root) × (new ≡ old) × (now ≡ rows)
  RunsChunk (s ∷ steps) root old rows new now joined = IsPhase m limit
      (s ∷ steps) root old rows new now joined

  -- the steps of all these phases were
  abbrev pub Runs : List (List Step) → PassKnown → List (Place P) → List Row
      → List (Place P) → List Row → PassKnown → Type 0
  Runs [] root old rows new now joined = (joined ≡ root) × (new ≡ old) × (now ≡ rows)
  Runs (chunk ∷ chunks) root old rows new now joined =
      (mid : PassKnown) × (places : List (Place P)) × (told : List Row)
      × RunsChunk chunk root old rows places told mid
      × Runs chunks mid places told new now joined

-- the ports of places
abbrev pub ports_of : {P : Type 0} → List (Place P) → List P
ports_of ss = map (λ s. s.port) ss

-- a place of an actor that did nothing yet
pub record IsIdle {P : Type 0} (s : Place P) : Type 0 where
  pub lines : s.lines.items ≡ []
  pub told : s.told ≡ 0

-- ---- the whole script, over places

-- the account of steps, where each port is an actor's: a history, and a line for each command,
-- which are these rows of the report
pub record IsSeatedScript {P : Type 0} (m : port.Ghosts P) (steps : List Stepped) (rows : List Row)
    (history : List Entry)
    (old new : List P) : Type 0 where
  pub told : List (List (List Line))
  pub account : IsAccountOf m history_limit (by_actor
      (length old) phase_limit steps) history told old new
  pub rows_are : rows ≡ report_rows phase_limit told
