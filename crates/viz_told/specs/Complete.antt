-- How a run ends that no failed call and no want of memory cut off (docs/FORMATS.md, "Report").
use Rattle.std.specs.Prelude.{◌≡◌, ◌⊎◌}
use Rattle.viz_told.specs.declared.status.Status.{Status}
use Rattle.viz_told.specs.declared.status.Status.TheVariants as status

-- Done, where all came to what was asked for, and Refused, where something didn't; or Memory
abbrev pub EndsComplete : Type 0 → Status → Type 0
EndsComplete AllCame ended = ((ended ≡ status.Done) × AllCame)
    ⊎ (((ended ≡ status.Refused) × (AllCame → ⊥)) ⊎ (ended ≡ status.Memory))

-- Script, where the script or journal is refused so; or Memory
abbrev pub EndsUnserved : Type 0 → Status → Type 0
EndsUnserved Refusal ended = ((ended ≡ status.Script) × Refusal) ⊎ (ended ≡ status.Memory)
