-- The steps of a turn keep the rule: draw, look, append, pass on and rest.
use Rattle.std.proofs.Common.{◌≡◌, ◌≢◌, ℕ, ◌+◌, ◌%◌, ◌<◌, ◌≤◌, ◌^◌, true, false, Option, Some, List, [], ◌∷◌, ◌++◌, map, length, get_or, set, sym, refl, ap, ◌∙◌, subst, inl, inr, arith, true≢false, length-append, mod-eq_of_lt}
use mathlib.Core.Option.{some}
use mathlib.Core.Logic.{dite}
use native.Mathlib.Decide.{ℕ_discrete}
use lib.ListN.{get_elem?}
use lib.Seq.{map-set}
use Rattle.std.proofs.lemmas.Bool.{false_from_ne_true}
use Rattle.atomic_table.specs.Table.{State, keeps, takes, gives, Allows}
use Rattle.atomic_table.proofs.Lists.{at_map, set_here}
use Rattle.viz_turn.specs.Tales.{has, GoesOn}
use Rattle.viz_turn.specs.Steps.Numbers.{spares, own_numbers, needs, AreNumbers}
use Rattle.viz_turn.specs.Steps.Turns.{idle, at_ticket, in_turn, resting, waiting, NoneOut, AreTurns}
use Rattle.viz_turn.specs.Steps.Lists.{IsView}
use Rattle.viz_turn.specs.Steps.Rule.{numbers_of, standing_of, IsHome, IsRuled}
use Rattle.viz_turn.specs.Steps.Kinds.{view, drew, appended, passed, rested, looked, Learns}
use Rattle.viz_turn.specs.declared.view.Numbers.{Numbers}
use Rattle.viz_turn.specs.declared.view.Standing.{Standing}
use Rattle.viz_turn.specs.declared.view.View.{View}
use Rattle.viz_turn.proofs.ListLemmas.{at_here, own_distinct, has_head, has_right}
use Rattle.viz_turn.proofs.NumberLemmas as numbering
use Rattle.viz_turn.proofs.TurnLemmas as queueing
use Rattle.viz_turn.proofs.TaleLemmas as telling
use Rattle.viz_turn.proofs.StepLemmas.{words4, words_with, up_mod, numbers_kept, standing_kept, no_turn_back, view_free, unmoved}

module _ {S E : Type 0} (tale : S → List E) (by : E → ℕ) (mark : S → ℕ) (m : ℕ) where
  abbrev St : Type 0
  St = State (Option S) (View E)

  abbrev Rule : St → Type 0
  Rule = IsRuled tale by mark m

  pub draws : (id : ℕ) (w0 : Numbers) (seen : List E) (c : List (ℕ × Option S)) → w0.live ≡ true
      → Allows Rule 1 id (view w0 idle m seen, c) 1 (λ n. (n + 1) % 18446744073709551616) (λ r n. drew (view w0 idle m seen, c) r n)
  draws id w0 seen c live s r wide at small =
      let vs : List (View E) = s.views in
      let qs : List Standing = map standing_of vs in
      let v : View E = view w0 idle m seen in
      let t : ℕ = r.served + waiting qs in
      let w : View E = view w0 (at_ticket t) m seen in
      let at_q = at_map standing_of vs id v at in
      let numbers_are = numbers_kept vs id v w at refl in
      let standings_are : map standing_of (set vs id w) ≡ set qs id (at_ticket t) = map-set standing_of vs id w in
      let lists = telling.lists_set by m r.told vs id v w at live (λ x h. h) r.lists (view_free by m r.told w0 (at_ticket t) seen live refl ((r.lists.each id v at).known live)) in
      let more : waiting (set qs id (at_ticket t)) + 0 ≡ waiting qs + 1 = queueing.waiting_set qs id idle (at_ticket t) at_q in
      let below : waiting (map standing_of (set vs id w)) ≤ needs (map numbers_of (set vs id w)) = queueing.waits_below (set vs id w) (λ i u at_u. (lists.each i u at_u).spent) in
      let below' : waiting (set qs id (at_ticket t)) ≤ needs (map numbers_of vs) = subst (λ (z : List Standing × List Numbers). waiting z.0 ≤ needs z.1) (λ k. (standings_are k, numbers_are k)) below in
      let room = r.numbers.room in
      let few : r.made < 2 ^ 64 = r.numbers.small in
      let turns = queueing.draws r.served qs id r.turns at_q (omega arith) in (
        w,
        keeps,
        tt,
        record {
          told = r.told;
          served = r.served;
          made = r.made;
          words_are = ap (λ ws. set ws 1 ((get_or ws 1 0 + 1) % 18446744073709551616)) r.words_are
              ∙ (ap (λ z. length r.told ∷ z ∷ r.served % 18446744073709551616 ∷ r.made ∷ []) (up_mod t ∙ ap (λ (z : ℕ). z % 18446744073709551616) (let e = turns.0 in omega arith))
              ∙ ap (λ z. words4 (length r.told) r.served (waiting z) r.made) (sym standings_are));
          numbers = subst (AreNumbers r.made) (sym numbers_are) r.numbers;
          turns = subst (AreTurns r.served) (sym standings_are) turns.1;
          home = λ none. r.home (no_turn_back qs id idle (at_ticket t) at_q refl (subst NoneOut standings_are none));
          lists = lists;
        },
        (refl, (t, ap (λ ws. get_or ws 1 0) r.words_are, refl)),
      )

  pub looks : (id : ℕ) (w0 : Numbers) (t : ℕ) (seen : List E) → w0.live ≡ true
      → Allows Rule 1 id (view w0 (at_ticket t) m seen, []) 2 (λ n. n) (λ r n. looked tale by mark (view w0 (at_ticket t) m seen, []) r n)
  looks id w0 t seen live s r wide at small =
      let vs : List (View E) = s.views in
      let qs : List Standing = map standing_of vs in
      let v : View E = view w0 (at_ticket t) m seen in
      let at_q = at_map standing_of vs id v at in
      let found : get_or s.words 2 0 ≡ r.served % 18446744073709551616 = ap (λ ws. get_or ws 2 0) r.words_are in
      let stays : set s.words 2 (get_or s.words 2 0) ≡ s.words = ap (λ ws. set ws 2 (get_or ws 2 0)) r.words_are ∙ sym r.words_are in
      dite (ℕ_discrete (get_or s.words 2 0) (t % 18446744073709551616))
      (λ hit.
      let next : r.served ≡ t = queueing.is_next r.served qs id t r.turns at_q (sym found ∙ hit) in
      let at_d : get_elem? qs id ≡ some (at_ticket r.served) = at_q ∙ ap (λ (z : ℕ). some (at_ticket z)) (sym next) in
      let h = r.home (queueing.none_yet r.served qs id r.turns at_d) in
      let w : View E = view w0 (in_turn t) m r.told in
      let standings_are : map standing_of (set vs id w) ≡ set qs id (in_turn r.served) = map-set standing_of vs id w ∙ ap (λ (z : ℕ). set qs id (in_turn z)) (sym next) in
      let numbers_are = numbers_kept vs id v w at refl in
      let turns = queueing.looks r.served qs id r.turns at_d in
      let goes = (r.lists.each id v at).known live in
      let f : IsView by m r.told w = record {
        marked = λ _. refl;
        known = λ _. telling.all_of_it by (own_numbers w0) r.told;
        claimed = tt;
        longest = λ _. refl;
        spent = λ dead. absurd (true≢false (sym live ∙ dead));
      } in (
        w,
        takes 0 (Some h.0),
        h.1,
        record {
          told = r.told;
          served = r.served;
          made = r.made;
          words_are = stays ∙ words_with s.words (length r.told) r.served r.made (waiting qs) _ r.words_are (sym turns.0 ∙ ap waiting (sym standings_are));
          numbers = subst (AreNumbers r.made) (sym numbers_are) r.numbers;
          turns = subst (AreTurns r.served) (sym standings_are) turns.1;
          home = λ none. absurd (true≢false (none id (in_turn t) (at_map standing_of (set vs id w) id w (at_here vs id w v at))));
          lists = telling.lists_set by m r.told vs id v w at live (λ x h. h) r.lists f;
        },
        inl (
          record {
            ticket = t;
            state = h.0;
            drawn = refl;
            view_is = ap (λ l. view w0 (in_turn t) m l) (sym h.2);
            slot_is = refl;
            marked = h.3;
            learns = subst (Learns by w0 seen) (sym h.2) (record {
              further = goes;
              whole = λ whole k e at_e. let n = r.lists.named k e at_e in
                  numbering.whole_has r.made (map numbers_of vs) id w0 r.numbers (at_map numbers_of vs id v at, live) whole (by e) n.0 n.1.numbers (at_map numbers_of vs n.0 n.1 n.2, n.3) n.4;
              distinct = own_distinct w0 (r.numbers.distinct id w0 (at_map numbers_of vs id v at, live));
            });
          },
          hit,
        ),
      ))
      (λ miss. (v, keeps, tt, unmoved tale by mark m s r 2 id [] v at stays, inr (refl, miss)))

  pub passes : (id : ℕ) (w0 : Numbers) (t : ℕ) (seen : List E) (st : S) → w0.live ≡ true → tale st ≡ seen → mark st ≡ m
      → Allows Rule 1 id (view w0 (in_turn t) m seen, (0, Some st) ∷ []) 2 (λ n. (n + 1) % 18446744073709551616) (λ r n. passed (view w0 (in_turn t) m seen, (0, Some st) ∷ []) n)
  passes id w0 t seen st live told marked s r wide at small =
      let vs : List (View E) = s.views in
      let qs : List Standing = map standing_of vs in
      let v : View E = view w0 (in_turn t) m seen in
      let w : View E = view w0 idle m seen in
      let at_q = at_map standing_of vs id v at in
      let standings_are : map standing_of (set vs id w) ≡ set qs id idle = map-set standing_of vs id w in
      let numbers_are = numbers_kept vs id v w at refl in
      let turns = queueing.passes r.served qs id t r.turns at_q in
      let fit = r.lists.each id v at in (
        w,
        gives,
        tt,
        record {
          told = r.told;
          served = r.served + 1;
          made = r.made;
          words_are = ap (λ ws. set ws 2 ((get_or ws 2 0 + 1) % 18446744073709551616)) r.words_are
              ∙ (ap (λ (z : ℕ × ℕ). length r.told ∷ z.0 % 18446744073709551616 ∷ z.1 ∷ r.made ∷ []) (λ k. (sym turns.0 k, up_mod r.served k))
              ∙ ap (λ z. words4 (length r.told) (r.served + 1) (waiting z) r.made) (sym standings_are));
          numbers = subst (AreNumbers r.made) (sym numbers_are) r.numbers;
          turns = subst (AreTurns (r.served + 1)) (sym standings_are) turns.1;
          home = λ _. (st, set_here s.homes 0 (some (Some st)) (let w1 = wide in omega arith), told ∙ fit.longest refl, marked);
          lists = telling.lists_set by m r.told vs id v w at live (λ x h. h) r.lists (view_free by m r.told w0 idle seen live refl (fit.known live));
        },
        (refl, refl),
      )

  pub rests : (id : ℕ) (w0 : Numbers) (t : ℕ) (seen : List E) (st : S) → w0.live ≡ true → tale st ≡ seen → mark st ≡ m
      → Allows Rule 1 id (view w0 (in_turn t) m seen, (0, Some st) ∷ []) 0 (λ n. n) (λ r n. rested (view w0 (in_turn t) m seen, (0, Some st) ∷ []) n)
  rests id w0 t seen st live told marked s r wide at small =
      let vs : List (View E) = s.views in
      let qs : List Standing = map standing_of vs in
      let v : View E = view w0 (in_turn t) m seen in
      let w : View E = view w0 (resting t) m seen in
      let at_q = at_map standing_of vs id v at in
      let standings_are : map standing_of (set vs id w) ≡ set qs id (resting t) = map-set standing_of vs id w in
      let numbers_are = numbers_kept vs id v w at refl in
      let turns = queueing.rests r.served qs id t r.turns at_q in
      let fit = r.lists.each id v at in
      let f : IsView by m r.told w = record { marked = fit.marked; known = fit.known; claimed = tt; longest = fit.longest; spent = λ dead. absurd (true≢false (sym live ∙ dead)) } in (
        w,
        gives,
        tt,
        record {
          told = r.told;
          served = r.served;
          made = r.made;
          words_are = ap (λ ws. set ws 0 (get_or ws 0 0)) r.words_are ∙ ap (λ z. words4 (length r.told) r.served z r.made) (sym turns.0 ∙ ap waiting (sym standings_are));
          numbers = subst (AreNumbers r.made) (sym numbers_are) r.numbers;
          turns = subst (AreTurns r.served) (sym standings_are) turns.1;
          home = λ _. (st, set_here s.homes 0 (some (Some st)) (let w1 = wide in omega arith), told ∙ fit.longest refl, marked);
          lists = telling.lists_set by m r.told vs id v w at live (λ x h. h) r.lists f;
        },
        (refl, refl),
      )

  -- who keeps the turn and has laid the slot back finds the state there
  pub ends : (id : ℕ) (w0 : Numbers) (t : ℕ) (seen : List E) (s : St) → Rule s → get_elem? s.views id ≡ some (view w0 (resting t) m seen) → IsHome tale by mark m seen s.homes
  ends id w0 t seen s r at =
      let v : View E = view w0 (resting t) m seen in
      let h = r.home (queueing.none_out r.served (map standing_of s.views) id t r.turns (at_map standing_of s.views id v at)) in
      (h.0, h.1, h.2 ∙ sym ((r.lists.each id v at).longest refl), h.3)

  pub appends : (id : ℕ) (w0 : Numbers) (t : ℕ) (seen : List E) (c : List (ℕ × Option S)) (e : E) → w0.live ≡ true → by e ≡ w0.number → length seen + 1 < 18446744073709551616
      → Allows Rule 1 id (view w0 (in_turn t) m seen, c) 0 (λ n. (n + 1) % 18446744073709551616) (λ r n. appended (seen ++ e ∷ []) (view w0 (in_turn t) m seen, c) n)
  appends id w0 t seen c e live is room s r wide at small =
      let vs : List (View E) = s.views in
      let qs : List Standing = map standing_of vs in
      let v : View E = view w0 (in_turn t) m seen in
      let w : View E = view w0 (in_turn t) m (seen ++ e ∷ []) in
      let at_q = at_map standing_of vs id v at in
      let standings_are = standing_kept vs id v w at refl in
      let numbers_are = numbers_kept vs id v w at refl in
      let whole : seen ≡ r.told = (r.lists.each id v at).longest refl in
      let mine : has (by e) (own_numbers w0) ≡ true = subst (λ (z : ℕ). has z (own_numbers w0) ≡ true) (sym is) (has_head w0.number w0.ended) in
      let long : length (r.told ++ e ∷ []) ≡ length r.told + 1 = length-append r.told (e ∷ []) in
      let fits_in : length r.told + 1 < 18446744073709551616 = subst (λ (l : List E). length l + 1 < 18446744073709551616) whole room in
      let held = r.turns.holder id (in_turn t) at_q refl in
      let f : IsView by m (r.told ++ e ∷ []) w = record {
        marked = λ _. refl;
        known = λ _. subst (λ (l : List E). GoesOn by (own_numbers w0) (l ++ e ∷ []) (r.told ++ e ∷ [])) (sym whole) (telling.all_of_it by (own_numbers w0) (r.told ++ e ∷ []));
        claimed = tt;
        longest = λ _. ap (λ l. l ++ e ∷ []) whole;
        spent = λ dead. absurd (true≢false (sym live ∙ dead));
      } in
      let others : (j : ℕ) (u : View E) → j ≢ id → get_elem? vs j ≡ some u → (u.numbers.live ≡ true → has (by e) (own_numbers u.numbers) ≡ false) × (u.standing.turn ≡ false) = λ j u not at_u. (
        (λ l. false_from_ne_true (has (by e) (own_numbers u.numbers)) (λ h. not (r.numbers.apart j id u.numbers w0 (at_map numbers_of vs j u at_u, l) (at_map numbers_of vs id v at, live) (by e)
            (has_right (by e) (spares u.numbers.spare) (own_numbers u.numbers) h) (has_right (by e) (spares w0.spare) (own_numbers w0) mine)))),
        false_from_ne_true u.standing.turn (λ yes. not (r.turns.apart j id u.standing (in_turn t) (at_map standing_of vs j u at_u) at_q r.served (r.turns.holder j u.standing (at_map standing_of vs j u at_u) yes) held)),
      ) in (
        w,
        keeps,
        tt,
        record {
          told = r.told ++ e ∷ [];
          served = r.served;
          made = r.made;
          words_are = ap (λ ws. set ws 0 ((get_or ws 0 0 + 1) % 18446744073709551616)) r.words_are
              ∙ (ap (λ z. words4 z r.served (waiting qs) r.made) (mod-eq_of_lt fits_in ∙ sym long)
              ∙ ap (λ z. words4 (length (r.told ++ e ∷ [])) r.served (waiting z) r.made) (sym standings_are));
          numbers = subst (AreNumbers r.made) (sym numbers_are) r.numbers;
          turns = subst (AreTurns r.served) (sym standings_are) r.turns;
          home = λ none. absurd (true≢false (none id (in_turn t) (at_map standing_of (set vs id w) id w (at_here vs id w v at))));
          lists = telling.lists_grow by m r.told vs id v w e at live refl mine others r.lists f;
        },
        (refl, refl),
      )
