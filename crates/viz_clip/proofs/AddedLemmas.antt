-- Keys that are added to a list, each that was met lately once.
use Rattle.std.proofs.Common.{◌≡◌, ℕ, zero, suc, ◌+◌, ◌<◌, ◌≤◌, Bool, List, [], ◌∷◌, ◌++◌, length, get_or, map, take, drop, refl, ap, subst, sym, ◌∙◌, inl, inr, ⊎_elim, arith}
use Rattle.std.specs.List.{Contains, flat_map}
use Rattle.std.proofs.lemmas.List.{flat_map_more, map-append, take_all, take_more}
use Rattle.std.proofs.lemmas.List.Elements.{Contains-append_left, Contains-append_right, Contains-append_cases}
use Rattle.viz_cells.specs.Steps.Numbered.{AreAdded, AreEndsOf}
use Rattle.viz_clip.specs.Steps.Keys.{cell_keys, cut_keys, keys_in}

-- no list has an item of no list
none : (k : ℕ) → Contains [] k → ⊥
none k c = let below = c.1 in absurd (omega (arith, below))

pub added-none : (old : List ℕ) → AreAdded old [] old
added-none old = record { members = λ k. (λ c. inl c, λ e. ⊎_elim (λ c. c) (λ c. absurd (none k c)) e) }

-- what is added, and then some more
added-again : (old first mid second new : List ℕ) → AreAdded old first mid → AreAdded mid second new → AreAdded old (first ++ second) new
added-again old first mid second new one two = record {
  members = λ k. (
    λ c. ⊎_elim
        (λ m. ⊎_elim (λ o. inl o) (λ f. inr (Contains-append_left first second k f)) ((one.members k).0 m))
        (λ s. inr (Contains-append_right first second k s)) ((two.members k).0 c),
    λ e. ⊎_elim
        (λ o. (two.members k).1 (inl ((one.members k).1 (inl o))))
        (λ b. ⊎_elim (λ f. (two.members k).1 (inl ((one.members k).1 (inr f)))) (λ s. (two.members k).1 (inr s)) (Contains-append_cases first second k b)) e,
  );
}

-- the first so many keys of a list, and one more
pub added-more : (keys old mid new : List ℕ) (i : ℕ) → i < length keys → AreAdded old (take i keys) mid → AreAdded mid (get_or keys i 0 ∷ []) new → AreAdded old (take (i + 1) keys) new
added-more keys old mid new i l one two =
    subst (λ t. AreAdded old t new) (sym (take_more keys i 0 l)) (added-again old (take i keys) mid (get_or keys i 0 ∷ []) new one two)

-- the keys of the first so many cells by ranks, and of one more
pub ends-more_cells : (inside : List Bool) (cells : List (List ℕ)) (mid new : List ℕ) (i : ℕ) (cell : List ℕ) → i < length cells → cell ≡ get_or cells i []
    → AreAdded [] (flat_map (λ piece. piece) (cell_keys inside (take i cells))) mid → AreAdded mid (keys_in inside cell) new
    → AreAdded [] (flat_map (λ piece. piece) (cell_keys inside (take (i + 1) cells))) new
ends-more_cells inside cells mid new i cell l is one two =
    subst (λ t. AreAdded [] t new)
    (flat_map_more (λ piece. piece) [] (cell_keys inside (take i cells)) (keys_in inside cell)
    ∙ ap (λ t. flat_map (λ piece. piece) t)
    (ap (λ n. cell_keys inside (take i cells) ++ keys_in inside n ∷ []) is ∙ sym (map-append (keys_in inside) (take i cells) (get_or cells i [] ∷ [])) ∙ ap (map (keys_in inside)) (sym (take_more cells i [] l))))
    (added-again [] (flat_map (λ piece. piece) (cell_keys inside (take i cells))) mid (keys_in inside cell) new one two)

-- the keys of all cells by ranks
pub ends-of_cells : (inside : List Bool) (cells : List (List ℕ)) (ends : List ℕ) (n : ℕ) → length cells ≤ n → AreAdded [] (flat_map (λ piece. piece) (cell_keys inside (take n cells))) ends
    → AreEndsOf (cell_keys inside cells) ends
ends-of_cells inside cells ends n whole so_far =
    let added = subst (λ t. AreAdded [] (flat_map (λ piece. piece) (cell_keys inside t)) ends) (take_all n cells whole) so_far in record {
      members = λ k. (λ c. ⊎_elim (λ n. absurd (none k n)) (λ f. f) ((added.members k).0 c), λ f. (added.members k).1 (inr f));
    }

-- no inside corner, or no outside one, has no cut
no-cuts : (k a b c d : ℕ) → (k ≡ 1 → ⊥) → (k ≡ 2 → ⊥) → (k ≡ 3 → ⊥) → k ≤ 4 → cut_keys (take k (a ∷ b ∷ c ∷ d ∷ [])) (drop k (a ∷ b ∷ c ∷ d ∷ [])) ≡ []
no-cuts zero a b c d one two three most = refl
no-cuts (suc zero) a b c d one two three most = absurd (one refl)
no-cuts (suc (suc zero)) a b c d one two three most = absurd (two refl)
no-cuts (suc (suc (suc zero))) a b c d one two three most = absurd (three refl)
no-cuts (suc (suc (suc (suc zero)))) a b c d one two three most = refl
no-cuts (suc (suc (suc (suc (suc k))))) a b c d one two three most = absurd (omega (arith, most))

pub added-none_of : (old : List ℕ) (k a b c d : ℕ) → (k ≡ 1 → ⊥) → (k ≡ 2 → ⊥) → (k ≡ 3 → ⊥) → k ≤ 4
    → AreAdded old (cut_keys (take k (a ∷ b ∷ c ∷ d ∷ [])) (drop k (a ∷ b ∷ c ∷ d ∷ []))) old
added-none_of old k a b c d one two three most =
    subst (λ t. AreAdded old t old) (sym (no-cuts k a b c d one two three most)) (added-none old)
