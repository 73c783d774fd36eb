-- What is served of a script: its account, and the rows of its report (docs/DEFINITIONS.md, "The
-- account of a script").
use Rattle.std.specs.Prelude.{◌≡◌, ℕ, List, Ok, map}
use Rattle.viz_base.specs.declared.port.Port as port
use Rattle.viz_entries.specs.declared.entry.Entry.{Entry}
use Rattle.viz_script.specs.declared.order.Step.{Step}
use Rattle.viz_script.specs.Script.{Stepped, script_of, stepped, phase_limit}
use Rattle.viz_report.specs.declared.line.Line.{Line}
use Rattle.viz_report.specs.declared.line.Row.{Row}
use Rattle.viz_report.specs.Report.{report_rows}
use Rattle.viz_account.specs.Account.{IsAccountOf}
use Rattle.viz_actor.specs.Groups.{actors_over, by_actor, history_limit}

-- the steps are those of a script over these ports
abbrev pub AreOfScript : {P : Type 0} → List Step → List P → Type 0
AreOfScript steps ports = (bytes : List ℕ)
    × (script_of (actors_over ports) bytes ≡ Ok (map stepped steps))

-- the account of steps: a history, and a line for each command, which are these rows of the report
pub record IsServedScript {P : Type 0} (m : port.Ghosts P) (steps : List Stepped) (rows : List Row)
    (history : List Entry)
    (old new : List P) : Type 0 where
  pub told : List (List (List Line))
  pub account : IsAccountOf m history_limit (by_actor
      (actors_over old) phase_limit steps) history told old new
  pub rows_are : rows ≡ report_rows phase_limit told
