-- When a run answers Done, when Refused and when Script (docs/FORMATS.md, "Report").
use Rattle.std.specs.Prelude.{ℕ, List, Option, None, Some}
use Rattle.viz_base.specs.Faults.{Rose}
use Rattle.viz_base.specs.declared.port.Port as port
use Rattle.viz_base.specs.declared.out.Out as out
use Rattle.viz_once.specs.Complete as once
use Rattle.viz_make.specs.Complete as make
use Rattle.viz_migrate.specs.Complete as migrate
use Rattle.viz_replay.specs.Complete as replay
use Rattle.viz_actor.specs.Complete as script
use Rattle.viz_told.specs.declared.status.Status.{Status}
use Rattle.viz_session.specs.Command.{Command, Once, Script, Scratch, Migrate, Make}

module _ {P O : Type 0} (m : port.Ghosts P) (o : out.Ghosts O) (desk new_desk : P)
    (old new : List P) (before after : O) where
  -- where no count of faults rose, of the desk, a port or the output, a run answers Done exactly
  -- where its command came to what it asked for, and else Refused, unless memory ran out; so it
  -- does where there is a port, and where the script or journal is accepted
  abbrev pub IsComplete : Option Command → Status → Type 0
  IsComplete (Some (Once c)) ended = once.IsComplete m o c old new before after ended
  IsComplete (Some (Script script_name journal)) ended =
      script.IsComplete m o script_name journal desk new_desk old new before after ended
  IsComplete (Some (Scratch c)) ended =
      replay.IsComplete m o c desk new_desk old new before after ended
  IsComplete (Some (Migrate c)) ended =
      migrate.IsComplete m o c desk new_desk old new before after ended
  IsComplete (Some (Make c)) ended = make.IsComplete m o old new before after ended
  IsComplete None ended = Unit {0}

-- Script comes exactly where the script is refused, unless memory ran out
abbrev pub IsScriptExactly : {P : Type 0} → port.Ghosts P → P → P → List P → Option Command
    → Status → Type 0
IsScriptExactly m desk new_desk old (Some (Script script_name journal)) ended =
    script.IsScriptExactly m script_name desk new_desk old ended
IsScriptExactly m desk new_desk old command ended = Unit {0}

-- a count of faults of such objects never rises, whatever is called
abbrev pub NeverRises : {X : Type 0} → (X → ℕ) → Type 0
NeverRises {X} faults = (before after : X) → Rose (faults before) (faults after) → ⊥
