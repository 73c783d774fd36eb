-- What nodes upstream give, in a table by the places of their steps.
use Rattle.std.specs.Prelude.{◌≡◌, ℕ, List, slice_get, slice_index_or, Option, None, Some, Result}
use Rattle.std.specs.Prelude.{Ok, Err}
use Rattle.viz_network.specs.declared.fault.Fault.{Fault}

-- what each step gives; nothing where it isn't asked for, or was given up
abbrev pub Table : Type 0 → Type 0
Table X = List (Option (Result X Fault))

-- the value that a place has
abbrev pub value_of : {X : Type 0} → Option (Result X Fault) → Option X
value_of (Some (Ok x)) = Some x
value_of (Some (Err fault)) = None
value_of None = None

-- what a place has
abbrev pub entry_at : {X : Type 0} → Table X → ℕ → Option (Result X Fault)
entry_at table place = slice_index_or table place None

-- the value at a place that feeds a port
abbrev pub value_at : {X : Type 0} → Table X → Option ℕ → Option X
value_at table None = None
value_at table (Some place) = value_of (entry_at table place)

-- all values of the table are sound
abbrev pub AreSoundIn : {X : Type 0} → (X → Type 0) → Table X → Type 0
AreSoundIn {X} P table = (j : ℕ) (x : X) → slice_get table j ≡ Some (Some (Ok x)) → P x
