-- When a run that makes a volume answers Done (docs/FORMATS.md, "Report").
use Rattle.std.specs.Prelude.{◌≡◌, List, [], ◌⊎◌}
use Rattle.viz_base.specs.Faults.{Rose}
use Rattle.viz_base.specs.declared.port.Port as port
use Rattle.viz_base.specs.declared.out.Out as out
use Rattle.viz_told.specs.declared.status.Status.{Status}
use Rattle.viz_told.specs.declared.status.Status.TheVariants as status
use Rattle.viz_told.specs.Ports.{FirstRose}

-- where there is a port, and no count of faults rose, of it or of the output, a run answers Done,
-- since nothing can be refused, unless memory ran out
abbrev pub IsComplete : {P O : Type 0} → port.Ghosts P → out.Ghosts O → List P → List P → O → O
    → Status → Type 0
IsComplete m o old new before after ended =
    (old ≡ [] → ⊥) → (FirstRose m old new → ⊥) → (Rose (o.faults before) (o.faults after) → ⊥)
    → (ended ≡ status.Done) ⊎ (ended ≡ status.Memory)
