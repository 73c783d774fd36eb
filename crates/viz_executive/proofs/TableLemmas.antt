-- Tables of exact parts.
use Rattle.std.proofs.Common.{◌≡◌, ℕ, ◌<◌, List, [], ◌∷◌, ◌++◌, length, slice_index_or, slice_set, sym, subst}
use Rattle.std.proofs.lemmas.List.Elements.{All-nil, All-push, All-set}
use Rattle.std.specs.Global.{Vec}
use Rattle.std.specs.List.{All}
use Rattle.viz_network.specs.Network.{Network}
use Rattle.viz_parts.specs.declared.stored.Stored.{Stored}
use Rattle.viz_executive.specs.Steps.Tables.{AreExact, IsExactItem}

module _ (net : Network) where
  abbrev Exact : Vec Stored → Type 0
  Exact items = All (IsExactItem net) items.items

  pub exact_set : (table : List (Vec Stored)) (place : ℕ) (old new : Vec Stored) (item : Stored)
      → place < length table → old ≡ slice_index_or table place old
      → new.items ≡ old.items ++ item ∷ [] → AreExact net table → IsExactItem net item
      → AreExact net (slice_set table place new)
  exact_set table place old new item l is e h x = record {
    each = All-set Exact table place new
        (subst (All (IsExactItem net)) (sym e)
        (All-push (IsExactItem net) old.items item (subst Exact (sym is) (h.each place old l)) x))
        h.each;
  }

  pub exact_clear : (table : List (Vec Stored)) (place : ℕ) (new : Vec Stored) → new.items ≡ []
      → AreExact net table → AreExact net (slice_set table place new)
  exact_clear table place new none h = record {
    each = All-set Exact table place new
        (subst (All (IsExactItem net)) (sym none) (All-nil (IsExactItem net))) h.each;
  }

  pub exact_push : (table next : List (Vec Stored)) (new : Vec Stored) → AreExact net table
      → new.items ≡ [] → next ≡ table ++ new ∷ [] → AreExact net next
  exact_push table next new h none e = record {
    each = subst (All Exact) (sym e)
        (All-push Exact table new h.each
        (subst (All (IsExactItem net)) (sym none) (All-nil (IsExactItem net))));
  }

  pub exact_at : (table : List (Vec Stored)) (place : ℕ) (items : Vec Stored) → place < length table
      → items ≡ slice_index_or table place items → AreExact net table
      → All (IsExactItem net) items.items
  exact_at table place items l is h = subst Exact (sym is) (h.each place items l)
