-- The counts of a pass's entries in a legal history.
use Rattle.std.proofs.Common.{◌≡◌, ℕ, ◌+◌, Bool, true, false, cond, List, [], ◌∷◌, ◌++◌, length, length-append, append-nil, refl, sym, ap, subst, ◌∙◌, ⊎_elim, true≢false}
use Rattle.viz_turn.specs.Tales.{has}
use Rattle.viz_turn.proofs.ListLemmas.{has_cons}
use Rattle.viz_turn.proofs.TaleLemmas.{entries_append}
use Rattle.viz_entries.specs.declared.entry.Entry.{Entry}
use Rattle.viz_entries.specs.History.{by_of, own_of, next, IsNext, IsLegalAfter, AreCountedFrom}

own_more : (pass : ℕ) (before : List Entry) (e : Entry) (b : Bool) → has e.pass (pass ∷ []) ≡ b → own_of pass (before ++ e ∷ []) ≡ own_of pass before ++ cond b (e ∷ []) []
own_more pass before e b h = entries_append by_of (pass ∷ []) before (e ∷ []) ∙ ap (λ t. own_of pass before ++ cond t (e ∷ []) []) h

same_pass : (pass : ℕ) (e : Entry) → has e.pass (pass ∷ []) ≡ true → e.pass ≡ pass
same_pass pass e h = ⊎_elim (λ (is : e.pass ≡ pass). is) (λ none. absurd (true≢false (sym none))) (has_cons e.pass pass [] h)

one_more : (pass : ℕ) (before es : List Entry) (e : Entry) (b : Bool) → has e.pass (pass ∷ []) ≡ b → IsNext before e → AreCountedFrom (next pass (before ++ e ∷ [])) (own_of pass es)
    → AreCountedFrom (next pass before) (cond b (e ∷ own_of pass es) (own_of pass es))
one_more pass before es e true h n rest = (
  n.counted ∙ ap (λ p. next p before) (same_pass pass e h),
  subst (λ k. AreCountedFrom k (own_of pass es)) (ap (λ k. k + 1) (ap length (own_more pass before e true h) ∙ length-append (own_of pass before) (e ∷ []))) rest,
)
one_more pass before es e false h n rest =
    subst (λ k. AreCountedFrom k (own_of pass es)) (ap (λ l. length l + 1) (own_more pass before e false h ∙ append-nil (own_of pass before))) rest

pub counted_after : (pass : ℕ) (before h : List Entry) → IsLegalAfter before h → AreCountedFrom (next pass before) (own_of pass h)
counted_after pass before [] l = tt
counted_after pass before (e ∷ es) l = one_more pass before es e (has e.pass (pass ∷ [])) refl l.0 (counted_after pass (before ++ e ∷ []) es l.1)
