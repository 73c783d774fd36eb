-- Group 2: each step keeps the queue.
use Rattle.std.proofs.Common.{◌≡◌, ◌≢◌, ℕ, zero, suc, ◌+◌, ◌%◌, ◌<◌, ◌≤◌, ◌^◌, Bool, true, false, Option, Some, None, List, [], ◌∷◌, ◌++◌, map, set, sym, refl, ap, ◌∙◌, subst, ⊎_elim, arith, true≢false}
use mathlib.Core.Option.{some, some-injective, some-ne-none}
use lib.ListN.{get_elem?}
use Rattle.std.proofs.lemmas.Bool.{cases_Bool}
use Rattle.atomic_table.proofs.Lists.{one_turn}
use Rattle.viz_turn.specs.Steps.Numbers.{needs_of, needs}
use Rattle.viz_turn.specs.Steps.Turns.{idle, at_ticket, in_turn, resting, waits, waiting, NoneOut, AreTurns}
use Rattle.viz_turn.specs.Steps.Rule.{numbers_of, standing_of}
use Rattle.viz_turn.specs.Steps.Kinds.{or_zero}
use Rattle.viz_turn.specs.declared.view.Standing.{Standing}
use Rattle.viz_turn.specs.declared.view.View.{View}
use Rattle.viz_turn.proofs.ListLemmas.{same_at, each_set, each_snoc}

pub waiting_set : (qs : List Standing) (i : ℕ) (q r : Standing) → get_elem? qs i ≡ some q → waiting (set qs i r) + waits q.ticket ≡ waiting qs + waits r.ticket
waiting_set [] i q r e = absurd (some-ne-none q (sym e))
waiting_set (x ∷ xs) zero q r e = let is : waits x.ticket ≡ waits q.ticket = ap (λ (m : Standing). waits m.ticket) (some-injective x q e) in omega arith
waiting_set (x ∷ xs) (suc i) q r e = let h = waiting_set xs i q r e in omega arith

waiting_snoc : (qs : List Standing) → waiting (qs ++ idle ∷ []) ≡ waiting qs
waiting_snoc [] = refl
waiting_snoc (x ∷ xs) = let h = waiting_snoc xs in omega arith

abbrev Within : ℕ → ℕ → Standing → Type 0
Within low high q = (t : ℕ) → q.ticket ≡ Some t → (low ≤ t) × (t < high)

some_same : (a b : ℕ) → Some a ≡ Some b → a ≡ b
some_same a b e = ap or_zero e

-- which seats may share a place
abbrev Apart : List Standing → Type 0
Apart qs = (i j : ℕ) (q r : Standing) → get_elem? qs i ≡ some q → get_elem? qs j ≡ some r → (t : ℕ) → q.ticket ≡ Some t → r.ticket ≡ Some t → i ≡ j

apart_set : (qs : List Standing) (id : ℕ) (w : Standing) → Apart qs → ((j : ℕ) (r : Standing) (t : ℕ) → j ≢ id → get_elem? qs j ≡ some r → w.ticket ≡ Some t → r.ticket ≡ Some t → ⊥) → Apart (set qs id w)
apart_set qs id w old cross i j q r at_q at_r t is_q is_r =
    each_set qs id w (λ i' q'. q'.ticket ≡ Some t → i' ≡ j)
    (λ is_w. each_set qs id w (λ j' r'. r'.ticket ≡ Some t → id ≡ j') (λ _. refl) (λ j' r' not at is. absurd (cross j' r' t not at is_w is)) j r at_r is_r)
    (λ i' q' not at is. each_set qs id w (λ j' r'. r'.ticket ≡ Some t → i' ≡ j') (λ is_w. absurd (cross i' q' t not at is_w is)) (λ j' r' not' at' is'. old i' j' q' r' at at' t is is') j r at_r is_r)
    i q at_q is_q

-- a seat draws a place
pub draws : (served : ℕ) (qs : List Standing) (id : ℕ) → AreTurns served qs → get_elem? qs id ≡ some idle → waiting qs + 1 < 2 ^ 64 → (waiting (set qs id (at_ticket (served + waiting qs))) ≡ waiting qs + 1) × AreTurns served (set qs id (at_ticket (served + waiting qs)))
draws served qs id r at room =
    let w : Standing = at_ticket (served + waiting qs) in
    let c : waiting (set qs id w) + 0 ≡ waiting qs + 1 = waiting_set qs id idle w at in (
      (omega arith),
      record {
        few = omega arith;
        within = each_set qs id w (λ _ q. Within served (served + waiting (set qs id w)) q)
            (λ t is. let same : served + waiting qs ≡ t = some_same (served + waiting qs) t is in (omega arith, omega arith))
            (λ j q not at_q t is. let h = r.within j q at_q t is in let h0 = h.0 in let h1 = h.1 in (h0, omega arith));
        apart = apart_set qs id w r.apart (λ j q t not at_q is_w is. let same : served + waiting qs ≡ t = some_same (served + waiting qs) t is_w in let h = (r.within j q at_q t is).1 in omega arith);
        holder = each_set qs id w (λ _ q. q.turn ≡ true → q.ticket ≡ Some served) (λ no. absurd (true≢false (sym no))) (λ j q not at_q. r.holder j q at_q);
        outs = each_set qs id w (λ _ q. q.out ≡ true → q.turn ≡ true) (λ no. absurd (true≢false (sym no))) (λ j q not at_q. r.outs j q at_q);
      },
    )

-- the word found is the ticket only where the place is the next one
pub is_next : (served : ℕ) (qs : List Standing) (id t : ℕ) → AreTurns served qs → get_elem? qs id ≡ some (at_ticket t) → served % 18446744073709551616 ≡ t % 18446744073709551616 → served ≡ t
is_next served qs id t r at same = let h = r.within id (at_ticket t) at t refl in let few : waiting qs < 18446744073709551616 = r.few in let low = h.0 in let high = h.1 in one_turn served t 18446744073709551616 low (omega arith) same

-- of_none has the turn while the next one waits
pub none_yet : (served : ℕ) (qs : List Standing) (id : ℕ) → AreTurns served qs → get_elem? qs id ≡ some (at_ticket served) → NoneOut qs
none_yet served qs id r at i q at_q = ⊎_elim
    (λ (yes : q.out ≡ true). let here : i ≡ id = r.apart i id q (at_ticket served) at_q at served (r.holder i q at_q (r.outs i q at_q yes)) refl in
    let is : q ≡ at_ticket served = same_at qs id q (at_ticket served) (subst (λ (z : ℕ). get_elem? qs z ≡ some q) here at_q) at in ap (λ (z : Standing). z.out) is)
    (λ no. no) (cases_Bool q.out)

pub looks : (served : ℕ) (qs : List Standing) (id : ℕ) → AreTurns served qs → get_elem? qs id ≡ some (at_ticket served) → (waiting (set qs id (in_turn served)) ≡ waiting qs) × AreTurns served (set qs id (in_turn served))
looks served qs id r at =
    let w : Standing = in_turn served in
    let c : waiting (set qs id w) + 1 ≡ waiting qs + 1 = waiting_set qs id (at_ticket served) w at in
    let same : waiting (set qs id w) ≡ waiting qs = omega arith in
    let few : waiting qs < 2 ^ 64 = r.few in (
      same,
      record {
        few = omega arith;
        within = each_set qs id w (λ _ q. Within served (served + waiting (set qs id w)) q)
            (λ t is. let h = r.within id (at_ticket served) at t is in let h0 = h.0 in let h1 = h.1 in (h0, omega arith))
            (λ j q not at_q t is. let h = r.within j q at_q t is in let h0 = h.0 in let h1 = h.1 in (h0, omega arith));
        apart = apart_set qs id w r.apart (λ j q t not at_q is_w is. not (r.apart j id q (at_ticket served) at_q at t is is_w));
        holder = each_set qs id w (λ _ q. q.turn ≡ true → q.ticket ≡ Some served) (λ _. refl) (λ j q not at_q. r.holder j q at_q);
        outs = each_set qs id w (λ _ q. q.out ≡ true → q.turn ≡ true) (λ _. refl) (λ j q not at_q. r.outs j q at_q);
      },
    )

pub passes : (served : ℕ) (qs : List Standing) (id t : ℕ) → AreTurns served qs → get_elem? qs id ≡ some (in_turn t) → ((served + 1) + waiting (set qs id idle) ≡ served + waiting qs) × AreTurns (served + 1) (set qs id idle)
passes served qs id t r at =
    let c : waiting (set qs id idle) + 1 ≡ waiting qs + 0 = waiting_set qs id (in_turn t) idle at in
    let is_t : Some t ≡ Some served = r.holder id (in_turn t) at refl in
    let same : t ≡ served = some_same t served is_t in
    let few : waiting qs < 2 ^ 64 = r.few in (
      (omega arith),
      record {
        few = omega arith;
        within = each_set qs id idle (λ _ q. Within (served + 1) ((served + 1) + waiting (set qs id idle)) q)
            (λ t is. absurd (cc))
            (λ j q not at_q t' is. let h = r.within j q at_q t' is in let low = h.0 in let high = h.1 in
            let other : t' ≢ served = λ eq. not (r.apart j id q (in_turn t) at_q at served (is ∙ ap (λ (z : ℕ). Some z) eq) is_t) in (omega arith, omega arith));
        apart = apart_set qs id idle r.apart (λ j q t' not at_q is_w is. absurd (cc));
        holder = each_set qs id idle (λ _ q. q.turn ≡ true → q.ticket ≡ Some (served + 1)) (λ no. absurd (true≢false (sym no)))
            (λ j q not at_q yes. absurd (not (r.apart j id q (in_turn t) at_q at served (r.holder j q at_q yes) is_t)));
        outs = each_set qs id idle (λ _ q. q.out ≡ true → q.turn ≡ true) (λ no. absurd (true≢false (sym no))) (λ j q not at_q. r.outs j q at_q);
      },
    )

pub rests : (served : ℕ) (qs : List Standing) (id t : ℕ) → AreTurns served qs → get_elem? qs id ≡ some (in_turn t) → (waiting (set qs id (resting t)) ≡ waiting qs) × AreTurns served (set qs id (resting t))
rests served qs id t r at =
    let w : Standing = resting t in
    let c : waiting (set qs id w) + 1 ≡ waiting qs + 1 = waiting_set qs id (in_turn t) w at in
    let same : waiting (set qs id w) ≡ waiting qs = omega arith in
    let few : waiting qs < 2 ^ 64 = r.few in (
      same,
      record {
        few = omega arith;
        within = each_set qs id w (λ _ q. Within served (served + waiting (set qs id w)) q)
            (λ t' is. let h = r.within id (in_turn t) at t' is in let h0 = h.0 in let h1 = h.1 in (h0, omega arith))
            (λ j q not at_q t' is. let h = r.within j q at_q t' is in let h0 = h.0 in let h1 = h.1 in (h0, omega arith));
        apart = apart_set qs id w r.apart (λ j q t' not at_q is_w is. not (r.apart j id q (in_turn t) at_q at t' is is_w));
        holder = each_set qs id w (λ _ q. q.turn ≡ true → q.ticket ≡ Some served) (λ yes. r.holder id (in_turn t) at yes) (λ j q not at_q. r.holder j q at_q);
        outs = each_set qs id w (λ _ q. q.out ≡ true → q.turn ≡ true) (λ no. absurd (true≢false (sym no))) (λ j q not at_q. r.outs j q at_q);
      },
    )

-- who keeps the turn and has laid the slot back knows that no slot is out
pub none_out : (served : ℕ) (qs : List Standing) (id t : ℕ) → AreTurns served qs → get_elem? qs id ≡ some (resting t) → NoneOut qs
none_out served qs id t r at i q at_q = ⊎_elim
    (λ (yes : q.out ≡ true). let here : i ≡ id = r.apart i id q (resting t) at_q at served (r.holder i q at_q (r.outs i q at_q yes)) (r.holder id (resting t) at refl) in
    let is : q ≡ resting t = same_at qs id q (resting t) (subst (λ (z : ℕ). get_elem? qs z ≡ some q) here at_q) at in ap (λ (z : Standing). z.out) is)
    (λ no. no) (cases_Bool q.out)

pub comes : (served : ℕ) (qs : List Standing) → AreTurns served qs → AreTurns served (qs ++ idle ∷ [])
comes served qs r =
    let l : List Standing = qs ++ idle ∷ [] in
    let same : waiting l ≡ waiting qs = waiting_snoc qs in
    let few : waiting qs < 2 ^ 64 = r.few in record {
      few = omega arith;
      within = each_snoc qs idle (λ _ q. Within served (served + waiting l) q) (λ t is. absurd (cc)) (λ j q at_q t is. let h = r.within j q at_q t is in let h0 = h.0 in let h1 = h.1 in (h0, omega arith));
      apart = λ i j q q' at_q at_q' t is is'.
          each_snoc qs idle (λ i' u. u.ticket ≡ Some t → i' ≡ j) (λ is_w. absurd (cc))
          (λ i' u at_u is_u. each_snoc qs idle (λ j' u'. u'.ticket ≡ Some t → i' ≡ j') (λ is_w. absurd (cc)) (λ j' u' at_u' is_u'. r.apart i' j' u u' at_u at_u' t is_u is_u') j q' at_q' is') i q at_q is;
      holder = each_snoc qs idle (λ _ q. q.turn ≡ true → q.ticket ≡ Some served) (λ no. absurd (true≢false (sym no))) (λ j q at_q. r.holder j q at_q);
      outs = each_snoc qs idle (λ _ q. q.out ≡ true → q.turn ≡ true) (λ no. absurd (true≢false (sym no))) (λ j q at_q. r.outs j q at_q);
    }

pub comes_waiting : (qs : List Standing) → waiting (qs ++ idle ∷ []) ≡ waiting qs
comes_waiting = waiting_snoc

-- who waits has a number, so that there are fewer than 2 ^ 64 who wait
one_waits : (live : Bool) (s place : Option ℕ) → (live ≡ false → place ≡ None) → waits place ≤ needs_of live s
one_waits true None None h = omega arith
one_waits true None (Some t) h = omega arith
one_waits true (Some n) None h = omega arith
one_waits true (Some n) (Some t) h = omega arith
one_waits false s None h = omega arith
one_waits false s (Some t) h = let e : Some t ≡ None = h refl in absurd (cc)

pub waits_below : {E : Type 0} (vs : List (View E)) → ((i : ℕ) (v : View E) → get_elem? vs i ≡ some v → v.numbers.live ≡ false → v.standing.ticket ≡ None) → waiting (map standing_of vs) ≤ needs (map numbers_of vs)
waits_below [] h = omega arith
waits_below (v ∷ vs) h = let one = one_waits v.numbers.live v.numbers.spare v.standing.ticket (h 0 v refl) in let more = waits_below vs (λ i w at. h (suc i) w at) in omega arith
