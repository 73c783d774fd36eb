-- The entries of a pass in a history that goes further than it has seen.
use Rattle.std.proofs.Common.{◌≡◌, ℕ, ◌+◌, ◌%◌, ◌^◌, ◌≤◌, Bool, true, false, not, cond, List, [], ◌∷◌, ◌++◌, length, length-append, append-nil, Option, Some, refl, sym, ap, ◌∙◌, subst, arith}
use mathlib.Core.Option.{some}
use lib.ListN.{get_elem?}
use Rattle.std.proofs.lemmas.Bool.{and_parts, not-true}
use Rattle.std.proofs.lemmas.Grind.{flat_map-append}
use Rattle.viz_turn.specs.Tales.{has, once, clear, HasNoOther}
use Rattle.viz_turn.specs.Known.{Known}
use Rattle.viz_turn.specs.Known as turn
use Rattle.atomic_table.proofs.Lists.{at_longer}
use Rattle.viz_turn.proofs.ListLemmas.{has_head, has_tail}
use Rattle.viz_turn.proofs.TaleLemmas.{entries_stay}
use Rattle.viz_turn.proofs.LawLemmas.{one_stays, one_grows, ended_stays, no_other}
use Rattle.viz_parts.specs.declared.stored.Stored.{Stored}
use Rattle.viz_kept.specs.True.{AreMadeIn, AreTrueOf}
use Rattle.viz_kept.proofs.TrueLemmas.{all_made_true}
use Rattle.viz_network.specs.declared.edit.Edit.{Edit}
use Rattle.viz_entries.specs.declared.entry.Entry.{Entry}
use Rattle.viz_history.specs.declared.answer.EditAnswer.{EditAnswer}
use Rattle.viz_history.specs.declared.answer.EditAnswer.TheVariants.{Done, Refused, Full, Memory}
use Rattle.viz_entries.specs.History.{by_of, own_of, edits_of, network_of}
use Rattle.viz_hub.specs.Answers.{Answers, next_entry, gained}
use Rattle.viz_hub.specs.declared.sent.Sent.{Sent}
use Rattle.viz_hub.specs.Passes.{PassKnown, as_known, with_sent, numbers, GoesFurther, Looks}
use Rattle.viz_hub.specs.Publishing.{Sends}
use Rattle.viz_hub.specs.Steps.Turns.{count_of}

-- the entries of the pass are those that it had seen
own_stays : (p : Known Entry) (h : List Entry) → turn.GoesFurther by_of p h → own_of p.number h ≡ own_of p.number p.seen
own_stays p h on = one_stays by_of p.number (turn.numbers p) p.seen h (has_head p.number p.ended) on

-- so their count stays
pub count_stays : (n : ℕ) (p : Known Entry) (h : List Entry) → n ≡ count_of p → turn.GoesFurther by_of p h → n ≡ length (own_of p.number h)
count_stays n p h is on = is ∙ sym (ap length (own_stays p h on))

-- of the pass that has seen more, too
pub same_count : (n : ℕ) (p q : Known Entry) → n ≡ count_of p → q.number ≡ p.number → turn.GoesFurther by_of p q.seen → n ≡ count_of q
same_count n p q is same on = count_stays n p q.seen is on ∙ ap (λ m. length (own_of m q.seen)) (sym same)

-- an entry of its own counts for one
pub count_grows : (n : ℕ) (p q : Known Entry) (h : List Entry) (e : Entry) → n ≡ count_of p → q.number ≡ p.number → turn.GoesFurther by_of p h → q.seen ≡ h ++ e ∷ [] → e.pass ≡ p.number → n + 1 ≡ count_of q
count_grows n p q h e is same on grown mine =
    ap (λ m. m + 1) is
    ∙ (sym (ap length (one_grows by_of p.number p.ended p.seen h q.seen e grown mine on) ∙ length-append (own_of p.number p.seen) (e ∷ []))
    ∙ ap (λ m. length (own_of m q.seen)) (sym same))

-- there are no more entries of a pass than entries
pub own_short : (pass : ℕ) (h : List Entry) → length (own_of pass h) ≤ length h
own_short pass [] = omega arith
own_short pass (e ∷ h) = by (has e.pass (pass ∷ [])) (own_short pass h)
  where
    by : (b : Bool) → length (own_of pass h) ≤ length h → length (cond b (e ∷ own_of pass h) (own_of pass h)) ≤ length (e ∷ h)
    by true r = omega (arith, r)
    by false r = omega (arith, r)

-- a number that no entry has
pub own_none : (pass : ℕ) (h : List Entry) → clear by_of (pass ∷ []) h ≡ true → own_of pass h ≡ []
own_none pass [] h = refl
own_none pass (e ∷ es) h =
    let t = and_parts (not (has e.pass (pass ∷ []))) (clear by_of (pass ∷ []) es) h in
    rw (not-true (has e.pass (pass ∷ [])) t.0) (own_none pass es t.1)

-- a pass that knows more of the tale has seen more of the history
pub looks_more : (sent : ℕ) (last : Option Sent) (p q : Known Entry) (h : List Entry) → q ≡ turn.at_seen p h → turn.GoesFurther by_of p h → Looks (with_sent sent last p) (with_sent sent last q)
looks_more sent last p q h is on = record {
  same = ap (with_sent sent last) (is ∙ ap (turn.at_seen p) (sym (ap (λ k. k.seen) is)));
  further = subst (λ l. turn.GoesFurther by_of p l) (sym (ap (λ k. k.seen) is)) on;
}

-- and has published once more
pub sends_more : (sent : Sent) (often : ℕ) (last : Option Sent) (next : ℕ) (p q : Known Entry) (h : List Entry) → next ≡ (often + 1) % 2 ^ 64 → q ≡ turn.at_seen p h → turn.GoesFurther by_of p h
    → Sends sent (with_sent often last p) (with_sent next (Some sent) q)
sends_more sent often last next p q h counts is on = record {
  same = ap (λ n. with_sent n (Some sent) q) counts ∙ ap (with_sent ((often + 1) % 2 ^ 64) (Some sent)) (is ∙ ap (turn.at_seen p) (sym (ap (λ k. k.seen) is)));
  further = subst (λ l. turn.GoesFurther by_of p l) (sym (ap (λ k. k.seen) is)) on;
}

-- what is made in the network of what a pass knows is true of a history that goes further
pub made_goes_on : (p : Known Entry) (h : List Entry) (made : List Stored) → turn.GoesFurther by_of p h → AreMadeIn (network_of p.seen) made → AreTrueOf (edits_of h) made
made_goes_on p h made on are =
    subst (λ l. AreTrueOf (edits_of l) made) (sym on.1)
    (subst (λ edits. AreTrueOf edits made) (sym (flat_map-append (λ e. e.batch) p.seen on.0)) (all_made_true (edits_of p.seen) (edits_of on.0) made are))

-- an answer's entries of the pass's number
pub answers_own : (p : PassKnown) (batch : List Edit) (answer : EditAnswer) (seen : List Entry) → Answers p batch answer seen → own_of p.number seen ≡ own_of p.number p.seen ++ gained p batch answer
answers_own p batch (Done at) seen a = one_grows by_of p.number p.ended p.seen a.0 seen (next_entry p batch) a.2 refl a.1
answers_own p batch (Refused index r at) seen a = own_stays (as_known p) seen a.0 ∙ sym (append-nil (own_of p.number p.seen))
answers_own p batch (Full at) seen a = own_stays (as_known p) seen a.0 ∙ sym (append-nil (own_of p.number p.seen))
answers_own p batch Memory seen a = own_stays (as_known p) seen a.0 ∙ sym (append-nil (own_of p.number p.seen))

ended_same : (p : PassKnown) (h : List Entry) (n : ℕ) → has n p.ended ≡ true → GoesFurther p h → own_of n h ≡ own_of n p.seen
ended_same p h n old on = one_stays by_of n (numbers p) p.seen h (has_tail n p.number p.ended old) on

-- and of its ended numbers
pub answers_ended : (p : PassKnown) (batch : List Edit) (answer : EditAnswer) (seen : List Entry) (n : ℕ) → once (numbers p) ≡ true → has n p.ended ≡ true → Answers p batch answer seen
    → own_of n seen ≡ own_of n p.seen
answers_ended p batch (Done at) seen n differ old a = ended_stays by_of p.number n p.ended p.seen a.0 seen (next_entry p batch) differ old a.2 refl a.1
answers_ended p batch (Refused index r at) seen n differ old a = ended_same p seen n old a.0
answers_ended p batch (Full at) seen n differ old a = ended_same p seen n old a.0
answers_ended p batch Memory seen n differ old a = ended_same p seen n old a.0

-- a whole pass has seen the journal
pub journal_is_seen : (p : PassKnown) (journal : List Entry) → GoesFurther p journal → HasNoOther by_of (numbers p) journal → journal ≡ p.seen
journal_is_seen p journal on whole =
    sym (no_other by_of (numbers p) journal whole)
    ∙ (entries_stay by_of (numbers p) p.seen journal on
    ∙ no_other by_of (numbers p) p.seen (λ k e at. whole k e (subst (λ l. get_elem? l k ≡ some e) (sym on.1) (at_longer p.seen on.0 k e at))))
