-- The network of the fixed history, and what lies upstream of its filter.
use Rattle.std.proofs.Common.{◌≡◌, ◌⊎◌, ℕ, Bool, true, false, not, List, [], ◌∷◌, Some, Ok, IsOk, refl, sym, ap, subst, ◌∙◌, inl, inr, arith}
use Rattle.viz_kinds.specs.Values.{is_value}
use Rattle.viz_network.specs.declared.refusal.Refusal.TheVariants.{BadValue}
use Rattle.viz_network.specs.declared.edit.Edit.{Edit}
use Rattle.viz_network.specs.Cone.{cone_of}
use Rattle.viz_network.specs.Edits.{unless}
use Rattle.viz_network.specs.Network.{Network, name_of}
use Rattle.viz_batches.specs.Batches.{then_all}
use Rattle.viz_entries.specs.declared.entry.Entry.{Entry}
use Rattle.viz_entries.specs.History.{entry, next, apply_behind, IsNext}
use Rattle.viz_once.specs.declared.command.NodeFilter.{NodeFilter}
use Rattle.viz_once.specs.declared.command.NodeFilter.TheVariants.{Threshold, Contour}
use Rattle.viz_once.specs.FixedHistory.{param_of, value_of, HasNumbers, network_for, source_id, op_id, name_at}
use Rattle.viz_once.specs.Laws.{HistoriesAreLegal}
use Rattle.viz_once.specs.Steps.Nodes.{source_node, op_node, made_network, tree_of}

-- ---- the numbers

pub fits : (filter : NodeFilter) → HasNumbers filter → is_value (param_of filter) (value_of filter) ≡ true
fits (Threshold lo hi) h = rw (h.0, h.1) refl
fits (Contour level) h = rw h refl

-- ---- the network

pub network_is : (filter : NodeFilter) (bytes : List ℕ) → HasNumbers filter → network_for filter bytes ≡ made_network filter bytes
network_is (Threshold lo hi) bytes h = rw (fits (Threshold lo hi) h) refl
network_is (Contour level) bytes h = rw (fits (Contour level) h) refl

-- the names of its nodes
named_there : (filter : NodeFilter) (bytes : List ℕ) (id : ℕ) → (id ≡ source_id) ⊎ (id ≡ op_id) → name_of (made_network filter bytes) id ≡ Some (name_at id)
named_there filter bytes id (inl e) = subst (λ (n : ℕ). name_of (made_network filter bytes) n ≡ Some (name_at n)) (sym e) refl
named_there filter bytes id (inr e) = subst (λ (n : ℕ). name_of (made_network filter bytes) n ≡ Some (name_at n)) (sym e) refl

pub name_is : (filter : NodeFilter) (bytes : List ℕ) → HasNumbers filter → (id : ℕ) → (id ≡ source_id) ⊎ (id ≡ op_id) → name_of (network_for filter bytes) id ≡ Some (name_at id)
name_is filter bytes h id either = ap (λ (net : Network). name_of net id) (network_is filter bytes h) ∙ named_there filter bytes id either

-- ---- its history

-- an edit whose value the parameter takes is accepted
taken : (net : Network) (b : Bool) → b ≡ true → IsOk (then_all (λ made. Ok made) 1 (unless (not b) BadValue (Ok net)))
taken net true e = refl
taken net false e = absurd (let bad : false ≡ true = e in cc)

-- an edit that is accepted is a next entry, as a batch of one
next_one : (before : List Entry) (count : ℕ) (e : Edit) → IsOk (apply_behind before (e ∷ [])) → count ≡ next 0 before → IsNext before (entry 0 count (e ∷ []))
next_one before count e accepted counted =
    record { batch = record { some = omega arith; few = omega arith }; accepted = accepted; counted = counted }

pub histories_are_legal : HistoriesAreLegal
histories_are_legal (Threshold lo hi) bytes h = (
  next_one _ 1 _ refl refl,
  (
    next_one _ 2 _ refl refl,
    (
      next_one _ 3 _ refl refl,
      (
        next_one _ 4 _ refl refl,
        (next_one _ 5 _ (taken (made_network (Threshold lo hi) bytes) (is_value (param_of (Threshold lo hi)) (value_of (Threshold lo hi))) (fits (Threshold lo hi) h)) refl, tt),
      ),
    ),
  ),
)
histories_are_legal (Contour level) bytes h = (
  next_one _ 1 _ refl refl,
  (
    next_one _ 2 _ refl refl,
    (
      next_one _ 3 _ refl refl,
      (
        next_one _ 4 _ refl refl,
        (next_one _ 5 _ (taken (made_network (Contour level) bytes) (is_value (param_of (Contour level)) (value_of (Contour level))) (fits (Contour level) h)) refl, tt),
      ),
    ),
  ),
)

-- ---- the cone

-- what lies upstream of the filter's node
cone_there : (filter : NodeFilter) (bytes : List ℕ) → cone_of (made_network filter bytes) op_id ≡ Some (tree_of (source_node bytes) (op_node filter))
cone_there filter bytes = refl

pub cone_is : (filter : NodeFilter) (bytes : List ℕ) → HasNumbers filter → cone_of (network_for filter bytes) op_id ≡ Some (tree_of (source_node bytes) (op_node filter))
cone_is filter bytes h = ap (λ (net : Network). cone_of net op_id) (network_is filter bytes h) ∙ cone_there filter bytes
