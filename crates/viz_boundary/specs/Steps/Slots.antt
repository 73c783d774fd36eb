-- Keys in slots, and those that found no free one.
use Rattle.std.specs.Prelude.{ℕ, ◌==◌, not, Bool, List, ◌++◌}
use Rattle.std.specs.List.{filter}
use Rattle.viz_boundary.specs.declared.slots.TheConstants.{FREE}
use Rattle.viz_boundary.specs.declared.slots.Slots.{Slots}

-- a number that doesn't say that its slot is free
abbrev pub is_taken : ℕ → Bool
is_taken key = not (key == FREE)

-- the keys in the slots, and the rest
abbrev pub held : Slots → List ℕ
held s = filter is_taken s.keys.items ++ s.rest.items
