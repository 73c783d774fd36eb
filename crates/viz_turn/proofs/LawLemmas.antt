-- What follows for entries from what passes know.
use Rattle.std.proofs.Common.{◌≡◌, ℕ, suc, true, false, not, List, [], ◌∷◌, ◌++◌, sym, refl, ap, ◌∙◌, subst, ⊎_elim, true≢false, append_assoc}
use Rattle.std.proofs.lemmas.Bool.{and_parts, not-true, false_from_ne_true}
use Rattle.viz_turn.specs.Tales.{has, once, entries_of, GoesOn, HasNoOther}
use Rattle.viz_turn.proofs.ListLemmas.{has_head, has_tail, has_cons}
use Rattle.viz_turn.proofs.TaleLemmas.{clear_append, clear_one, entries_stay, entries_grow, further_still, all_of_it}

-- one number of several
one_number : (n : ℕ) (ns : List ℕ) → has n ns ≡ true → (x : ℕ) → has x (n ∷ []) ≡ true → has x ns ≡ true
one_number n ns h x k = ⊎_elim (λ (is : x ≡ n). subst (λ (z : ℕ). has z ns ≡ true) (sym is) h) (λ none. absurd (true≢false (sym none))) (has_cons x n [] k)

module _ {E : Type 0} (by : E → ℕ) where
  goes_on_one : (n : ℕ) (ns : List ℕ) (seen tale : List E) → has n ns ≡ true → GoesOn by ns seen tale → GoesOn by (n ∷ []) seen tale
  goes_on_one n ns seen tale h g = further_still by ns (n ∷ []) seen seen tale (one_number n ns h) (all_of_it by (n ∷ []) seen) g

  pub one_stays : (n : ℕ) (ns : List ℕ) (seen tale : List E) → has n ns ≡ true → GoesOn by ns seen tale → entries_of by (n ∷ []) tale ≡ entries_of by (n ∷ []) seen
  one_stays n ns seen tale h g = entries_stay by (n ∷ []) seen tale (goes_on_one n ns seen tale h g)

  pub one_grows : (n : ℕ) (ended : List ℕ) (seen tale new : List E) (e : E) → new ≡ tale ++ e ∷ [] → by e ≡ n → GoesOn by (n ∷ ended) seen tale
      → entries_of by (n ∷ []) new ≡ entries_of by (n ∷ []) seen ++ e ∷ []
  one_grows n ended seen tale new e is mine g =
      ap (entries_of by (n ∷ [])) is
      ∙ entries_grow by (n ∷ []) seen tale e (goes_on_one n (n ∷ ended) seen tale (has_head n ended) g) (subst (λ (z : ℕ). has z (n ∷ []) ≡ true) (sym mine) (has_head n []))

  pub ended_stays : (m n : ℕ) (ended : List ℕ) (seen tale new : List E) (e : E) → once (m ∷ ended) ≡ true → has n ended ≡ true → new ≡ tale ++ e ∷ [] → by e ≡ m → GoesOn by (m ∷ ended) seen tale
      → entries_of by (n ∷ []) new ≡ entries_of by (n ∷ []) seen
  ended_stays m n ended seen tale new e differ old is mine g =
      let f : GoesOn by (n ∷ []) seen tale = goes_on_one n (m ∷ ended) seen tale (has_tail n m ended old) g in
      let apart : has (by e) (n ∷ []) ≡ false = false_from_ne_true (has (by e) (n ∷ [])) (λ h. ⊎_elim
      (λ (same : by e ≡ n). true≢false (sym (subst (λ (z : ℕ). has z ended ≡ true) (sym same ∙ mine) old) ∙ not-true (has m ended) (and_parts (not (has m ended)) (once ended) differ).0))
      (λ none. true≢false (sym none)) (has_cons (by e) n [] h)) in
      entries_stay by (n ∷ []) seen new (f.0 ++ e ∷ [], is ∙ (ap (λ l. l ++ e ∷ []) f.1 ∙ append_assoc seen f.0 (e ∷ [])), clear_append by (n ∷ []) f.0 (e ∷ []) f.2 (clear_one by (n ∷ []) e apart))

  pub no_other : (ns : List ℕ) (tale : List E) → HasNoOther by ns tale → entries_of by ns tale ≡ tale
  no_other ns [] h = refl
  no_other ns (e ∷ es) h = rw (h 0 e refl) (ap (λ l. e ∷ l) (no_other ns es (λ k x at. h (suc k) x at)))
