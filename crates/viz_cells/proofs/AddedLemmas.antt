-- Keys that are added to a list, each that was met lately once.
use Rattle.std.proofs.Common.{◌≡◌, ℕ, ◌+◌, ◌<◌, ◌≤◌, List, [], ◌∷◌, ◌++◌, length, get_or, take, ap, subst, sym, ◌∙◌, inl, inr, ⊎_elim, arith}
use Rattle.std.specs.List.{Contains, flat_map}
use Rattle.std.proofs.lemmas.List.{flat_map_more, take_all, take_more}
use Rattle.std.proofs.lemmas.List.Elements.{Contains-append_left, Contains-append_right, Contains-append_cases}
use Rattle.viz_cells.specs.Steps.Numbered.{AreAdded, AreEndsOf}

-- no list has an item of no list
none : (k : ℕ) → Contains [] k → ⊥
none k c = let below = c.1 in absurd (omega (arith, below))

pub added-none : (old : List ℕ) → AreAdded old [] old
added-none old = record { members = λ k. (λ c. inl c, λ e. ⊎_elim (λ c. c) (λ c. absurd (none k c)) e) }

-- what is added, and then some more
added-again : (old first mid second new : List ℕ) → AreAdded old first mid → AreAdded mid second new → AreAdded old (first ++ second) new
added-again old first mid second new one two = record {
  members = λ k. (
    λ c. ⊎_elim
        (λ m. ⊎_elim (λ o. inl o) (λ f. inr (Contains-append_left first second k f)) ((one.members k).0 m))
        (λ s. inr (Contains-append_right first second k s)) ((two.members k).0 c),
    λ e. ⊎_elim
        (λ o. (two.members k).1 (inl ((one.members k).1 (inl o))))
        (λ b. ⊎_elim (λ f. (two.members k).1 (inl ((one.members k).1 (inr f)))) (λ s. (two.members k).1 (inr s)) (Contains-append_cases first second k b)) e,
  );
}

-- the first so many keys of a list, and one more
pub added-more : (keys old mid new : List ℕ) (i : ℕ) → i < length keys → AreAdded old (take i keys) mid → AreAdded mid (get_or keys i 0 ∷ []) new → AreAdded old (take (i + 1) keys) new
added-more keys old mid new i l one two =
    subst (λ t. AreAdded old t new) (sym (take_more keys i 0 l)) (added-again old (take i keys) mid (get_or keys i 0 ∷ []) new one two)

-- the keys of the first so many cells, and of one more
pub ends-more : (pieces : List (List ℕ)) (mid new piece : List ℕ) (i : ℕ) → i < length pieces → piece ≡ get_or pieces i piece
    → AreAdded [] (flat_map (λ piece. piece) (take i pieces)) mid → AreAdded mid piece new → AreAdded [] (flat_map (λ piece. piece) (take (i + 1) pieces)) new
ends-more pieces mid new piece i l e one two =
    subst (λ t. AreAdded [] t new)
    (flat_map_more (λ piece. piece) [] (take i pieces) piece
    ∙ ap (λ t. flat_map (λ piece. piece) t) (ap (λ n. take i pieces ++ n ∷ []) e ∙ sym (take_more pieces i piece l)))
    (added-again [] (flat_map (λ piece. piece) (take i pieces)) mid piece new one two)

-- the keys of all cells
pub ends-of : (pieces : List (List ℕ)) (ends : List ℕ) (n : ℕ) → length pieces ≤ n → AreAdded [] (flat_map (λ piece. piece) (take n pieces)) ends → AreEndsOf pieces ends
ends-of pieces ends n whole so_far =
    let added = subst (λ t. AreAdded [] (flat_map (λ piece. piece) t) ends) (take_all n pieces whole) so_far in record {
      members = λ k. (λ c. ⊎_elim (λ n. absurd (none k n)) (λ f. f) ((added.members k).0 c), λ f. (added.members k).1 (inr f));
    }
