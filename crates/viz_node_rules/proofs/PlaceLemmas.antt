-- What feeds a port is a value of the table.
use Rattle.std.proofs.Common.{IfSome, ◌≡◌, ℕ, zero, suc, List, [], ◌∷◌, slice_get, Option, None, Some, Result, Ok, Err, refl, ap}
use Rattle.viz_network.specs.declared.fault.Fault.{Fault}
use Rattle.viz_node_rules.specs.Places.{Table, value_of, entry_at, value_at, AreSoundIn}

-- an entry that is there
entry_there : {X : Type 0} (table : Table X) (p : ℕ) (v : Result X Fault) → entry_at table p ≡ Some v → slice_get table p ≡ Some (Some v)
entry_there [] p v e = let bad : ⊥ = cc in absurd bad
entry_there (x ∷ table) zero v e = ap Some e
entry_there (x ∷ table) (suc p) v e = entry_there table p v e

-- what feeds a port is sound
pub sound_at : {X : Type 0} (P : X → Type 0) (table : Table X) (place : Option ℕ) → AreSoundIn P table → IfSome (value_at table place) P
sound_at P table None h = tt
sound_at {X} P table (Some p) h = by (entry_at table p) refl
  where
    by : (o : Option (Result X Fault)) → entry_at table p ≡ o → IfSome (value_of o) P
    by None e = tt
    by (Some (Err f)) e = tt
    by (Some (Ok x)) e = h p x (entry_there table p (Ok x) e)
