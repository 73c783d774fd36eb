-- A change under a name is an insertion, and a write at its index.
use Rattle.std.proofs.Common.{◌≡◌, ℕ, Bool, true, false, cond, nat_eq, position, List, [], ◌∷◌, Option, None, Some, is_some, slice_get, refl, ap, ◌∙◌}
use Rattle.std.specs.Map.{keys_of, values_of, lookup}
use Rattle.std.specs.Cmp.Lexicographic.{pointwise}
use Rattle.indexmap.specs.IndexMap.{set_value_at, insert_entry}
use Rattle.indexmap.proofs.MapLemmas.{insert_entry-first, Found-position}
use Rattle.viz_network.specs.declared.node.Node.{Node}
use Rattle.viz_network.specs.Network.{Network, named, change}

change_inserts : (f : Node → Node) (net : Network) (name : List ℕ) (n : Node) → named net name ≡ Some n → change f net name ≡ insert_entry (pointwise nat_eq) net name (f n)
change_inserts f [] name n h = let bad : ⊥ = cc in absurd bad
change_inserts f (e ∷ net) name n h = by (pointwise nat_eq name e.0) h (change_inserts f net name n)
  where
    some : {A : Type 0} (a b : A) → Some a ≡ Some b → a ≡ b
    some a b p = let get : Option _ → _ = λ o. elim o [ Some x ↦ x | None ↦ a ] in ap get p

    by : (b : Bool) → cond b (Some e.1) (lookup (pointwise nat_eq name) net) ≡ Some n
        → (named net name ≡ Some n → change f net name ≡ insert_entry (pointwise nat_eq) net name (f n))
        → cond b ((e.0, f e.1) ∷ net) (e ∷ change f net name) ≡ cond b ((e.0, f n) ∷ net) (e ∷ insert_entry (pointwise nat_eq) net name (f n))
    by true p rest = ap (λ m. (e.0, f m) ∷ net) (some e.1 n p)
    by false p rest = ap (λ es. e ∷ es) (rest p)

pub change_at : (f : Node → Node) (net : Network) (name : List ℕ) (i : ℕ) (n : Node) → position (pointwise nat_eq name) (keys_of net) ≡ Some i
    → slice_get (values_of net) i ≡ Some n → change f net name ≡ set_value_at net i (f n)
change_at f net name i n at h =
    let found = Found-position (pointwise nat_eq name) net i at in
    change_inserts f net name n (found.value ∙ h) ∙ insert_entry-first (pointwise nat_eq) name (f n) net i found.first

pub change_none : (f : Node → Node) (net : Network) (name : List ℕ) → is_some (named net name) ≡ false → change f net name ≡ net
change_none f [] name h = refl
change_none f (e ∷ net) name h = by (pointwise nat_eq name e.0) h (change_none f net name)
  where
    by : (b : Bool) → is_some (cond b (Some e.1) (lookup (pointwise nat_eq name) net)) ≡ false → (is_some (named net name) ≡ false → change f net name ≡ net)
        → cond b ((e.0, f e.1) ∷ net) (e ∷ change f net name) ≡ e ∷ net
    by true p rest = cc
    by false p rest = ap (λ es. e ∷ es) (rest p)
