-- The steps of passes keep the rule: number, split, join and learn; and how the rule begins.
use Rattle.std.proofs.Common.{◌≡◌, ℕ, ◌+◌, ◌%◌, ◌<◌, ◌≤◌, eqb, eq-eqb, ne_eqb, true, false, not, Option, Some, None, List, [], ◌∷◌, ◌++◌, map, length, get_or, set, sym, refl, ap, ◌∙◌, subst, ⊎_elim, arith, true≢false, MatchBool}
use mathlib.Core.Option.{some, some-injective, some-ne-none}
use mathlib.Core.Option as maybe
use mathlib.Core.Logic.{dite}
use mathlib.Core.List.{map-append}
use native.Mathlib.Decide.{ℕ_discrete}
use lib.ListN.{get_elem?}
use lib.Seq.{map-set}
use prog.Atomic.{either}
use Rattle.std.proofs.lemmas.Bool.{both_ways, false_from_ne_true}
use Rattle.atomic_table.specs.Table.{State, step, keeps, stepped, Allows, Splits, Joins, opening}
use Rattle.atomic_table.proofs.Lists.{at_set, at_map, set_here, set_else, set_again}
use Rattle.viz_turn.specs.Tales.{has, clear, GoesOn}
use Rattle.viz_turn.specs.Steps.Numbers.{spares, own_numbers, Live, AreNumbers}
use Rattle.viz_turn.specs.Steps.Turns.{idle, waiting, NoneOut, AreTurns}
use Rattle.viz_turn.specs.Steps.Lists.{IsView}
use Rattle.viz_turn.specs.Steps.Rule.{numbers_of, standing_of, IsRuled}
use Rattle.viz_turn.specs.Steps.Kinds.{view, of_pass, of_none, first_view, spent_view, elder_view, younger_view, one_of, joined, IsNew, numbered, learned}
use Rattle.viz_turn.specs.declared.view.Numbers.{Numbers}
use Rattle.viz_turn.specs.declared.view.Standing.{Standing}
use Rattle.viz_turn.specs.declared.view.View.{View}
use Rattle.viz_turn.proofs.ListLemmas.{at_here, at_else, own_distinct, at_within, same_at, each_set, has_head, has_right, has_tail, has_cons}
use Rattle.viz_turn.proofs.NumberLemmas as numbering
use Rattle.viz_turn.proofs.TurnLemmas as queueing
use Rattle.viz_turn.proofs.TaleLemmas as telling
use Rattle.viz_turn.proofs.StepLemmas.{words4, words_with, numbers_kept, standing_kept, view_free, unmoved}

module _ {S E : Type 0} (tale : S → List E) (by : E → ℕ) (mark : S → ℕ) (m : ℕ) where
  abbrev St : Type 0
  St = State (Option S) (View E)

  abbrev Rule : St → Type 0
  Rule = IsRuled tale by mark m

  -- every entry's number was drawn
  drawn_below : (s : St) (r : Rule s) (k : ℕ) (e : E) → get_elem? r.told k ≡ some e → by e < r.made
  drawn_below s r k e at_e = let n = r.lists.named k e at_e in
      r.numbers.below n.0 n.1.numbers (at_map numbers_of s.views n.0 n.1 n.2, n.3) (by e) (has_right (by e) (spares n.1.numbers.spare) (own_numbers n.1.numbers) n.4)

  pub numbers : (id n : ℕ) (e b : List ℕ) (q : Standing) (seen : List E) (c : List (ℕ × Option S)) (old : ℕ) → old + 1 < 18446744073709551616 → q.turn ≡ false
      → Allows Rule 1 id (view (of_pass n None e b) q m seen, c) 3 (λ x. either (eqb x old) (old + 1) x) (numbered by (step 1 3 old (old + 1) maybe.none) (view (of_pass n None e b) q m seen, c))
  numbers id n e b q seen c old room off s r wide at small =
      let vs : List (View E) = s.views in
      let qs : List Standing = map standing_of vs in
      let w0 : Numbers = of_pass n None e b in
      let v : View E = view w0 q m seen in
      let x : ℕ = get_or s.words 3 0 in
      let found : x ≡ r.made = ap (λ ws. get_or ws 3 0) r.words_are in
      let stays : set s.words 3 (get_or s.words 3 0) ≡ s.words = ap (λ ws. set ws 3 (get_or ws 3 0)) r.words_are ∙ sym r.words_are in
      let mine : Live (map numbers_of vs) id w0 = (at_map numbers_of vs id v at, refl) in
      dite (ℕ_discrete x old)
      (λ hit.
      let w : View E = view (of_pass n (Some x) e b) q m seen in
      let is : r.made ≡ old = sym found ∙ hit in
      let standings_are = standing_kept vs id v w at refl in
      let numbers_are : map numbers_of (set vs id w) ≡ set (map numbers_of vs) id (of_pass n (Some r.made) e b) = map-set numbers_of vs id w ∙ ap (λ (z : ℕ). set (map numbers_of vs) id (of_pass n (Some z) e b)) found in
      let goes = (r.lists.each id v at).known refl in
      let free : clear by (x ∷ []) r.told ≡ true = telling.clear_from by (x ∷ []) r.told (λ k y at_y h. ⊎_elim
      (λ (same : by y ≡ x). let lt = drawn_below s r k y at_y in omega arith) (λ none. true≢false (sym none)) (has_cons (by y) x [] h)) in (
        w,
        keeps,
        tt,
        subst (λ t. Rule (stepped s 3 (either t (old + 1) x) id c w keeps)) (sym (eq-eqb x old hit)) (record {
          told = r.told;
          served = r.served;
          made = r.made + 1;
          words_are = ap (λ ws. set ws 3 (old + 1)) r.words_are
              ∙ (ap (λ (z : ℕ). length r.told ∷ (r.served + waiting qs) % 18446744073709551616 ∷ r.served % 18446744073709551616 ∷ (z + 1) ∷ []) (sym is)
              ∙ ap (λ z. words4 (length r.told) r.served (waiting z) (r.made + 1)) (sym standings_are));
          numbers = subst (AreNumbers (r.made + 1)) (sym numbers_are) (numbering.draws r.made (map numbers_of vs) id n e b r.numbers mine.0 (subst (λ (z : ℕ). z + 1 < 18446744073709551616) (sym is) room));
          turns = subst (AreTurns r.served) (sym standings_are) r.turns;
          home = λ none. r.home (subst NoneOut standings_are none);
          lists = telling.lists_set by m r.told vs id v w at refl (λ x h. h) r.lists (view_free by m r.told (of_pass n (Some x) e b) q seen refl off goes);
        }),
        (
          refl,
          subst (λ t. MatchBool t ((w ≡ view (of_pass n (Some x) e b) q m seen) × IsNew by x v) (w ≡ v)) (sym (eq-eqb x old hit)) (
            refl,
            record {
              own = false_from_ne_true (has x (n ∷ e)) (λ h. let lt = r.numbers.below id w0 mine x h in omega arith);
              born = false_from_ne_true (has x b) (λ h. let lt = r.numbers.born_below id w0 mine x h in omega arith);
              entries = telling.clear_left by (x ∷ []) seen goes.0 (subst (λ (l : List E). clear by (x ∷ []) l ≡ true) goes.1 free);
            },
          ),
        ),
      ))
      (λ miss. (
        v,
        keeps,
        tt,
        subst (λ t. Rule (stepped s 3 (either t (old + 1) x) id c v keeps)) (sym (ne_eqb x old miss)) (unmoved tale by mark m s r 3 id c v at stays),
        (refl, subst (λ t. MatchBool t ((v ≡ view (of_pass n (Some x) e b) q m seen) × IsNew by x v) (v ≡ v)) (sym (ne_eqb x old miss)) refl),
      ))

  pub splits : (id n k : ℕ) (e b : List ℕ) (seen : List E) → let v : View E = view (of_pass n (Some k) e b) idle m seen in Splits Rule id v (elder_view v) (younger_view v)
  splits id n k e b seen s r at =
      let vs : List (View E) = s.views in
      let qs : List Standing = map standing_of vs in
      let v : View E = view (of_pass n (Some k) e b) idle m seen in
      let w : View E = view (of_pass n None e (k ∷ b)) idle m seen in
      let y : View E = view (of_pass k None [] []) idle m seen in
      let l1 : List (View E) = set vs id w in
      let standings_are : map standing_of (l1 ++ y ∷ []) ≡ qs ++ idle ∷ [] = map-append standing_of l1 (y ∷ []) ∙ ap (λ z. z ++ idle ∷ []) (standing_kept vs id v w at refl) in
      let numbers_are : map numbers_of (l1 ++ y ∷ []) ≡ set (map numbers_of vs) id (of_pass n None e (k ∷ b)) ++ of_pass k None [] [] ∷ [] = map-append numbers_of l1 (y ∷ []) ∙ ap (λ z. z ++ of_pass k None [] [] ∷ []) (map-set numbers_of vs id w) in
      let mine : Live (map numbers_of vs) id (of_pass n (Some k) e b) = (at_map numbers_of vs id v at, refl) in
      let over = r.numbers.spare id (of_pass n (Some k) e b) mine k refl in
      let goes = (r.lists.each id v at).known refl in
      let free : clear by (k ∷ []) r.told ≡ true = telling.clear_from by (k ∷ []) r.told (λ i x at_x h. ⊎_elim
      (λ (same : by x ≡ k). let o = r.lists.named i x at_x in let u : Numbers = o.1.numbers in
      let has_k : has k (own_numbers u) ≡ true = subst (λ (z : ℕ). has z (own_numbers u) ≡ true) same o.4 in
      let here : o.0 ≡ id = r.numbers.apart o.0 id u (of_pass n (Some k) e b) (at_map numbers_of vs o.0 o.1 o.2, o.3) mine k (has_right k (spares u.spare) (own_numbers u) has_k) (has_head k (n ∷ e)) in
      let is : o.1 ≡ v = same_at vs id o.1 v (subst (λ (z : ℕ). get_elem? vs z ≡ some o.1) here o.2) at in
      ⊎_elim (λ (eq : k ≡ n). let lt = over.above in omega arith) (λ in_e. both_ways (has k e) over.new in_e) (has_cons k n e (subst (λ (z : View E). has k (own_numbers z.numbers) ≡ true) is has_k)))
      (λ none. true≢false (sym none)) (has_cons (by x) k [] h)) in
      let goes_y : GoesOn by (k ∷ []) seen r.told = (goes.0, goes.1, telling.clear_right by (k ∷ []) seen goes.0 (subst (λ (l : List E). clear by (k ∷ []) l ≡ true) goes.1 free)) in
      record {
        told = r.told;
        served = r.served;
        made = r.made;
        words_are = words_with s.words (length r.told) r.served r.made (waiting qs) _ r.words_are (sym (queueing.comes_waiting qs) ∙ ap waiting (sym standings_are));
        numbers = subst (AreNumbers r.made) (sym numbers_are) (numbering.splits r.made (map numbers_of vs) id n k e b r.numbers mine.0);
        turns = subst (AreTurns r.served) (sym standings_are) (queueing.comes r.served qs r.turns);
        home = λ none. r.home (λ i q at_i. none i q (ap (λ z. get_elem? z i) standings_are ∙ Rattle.atomic_table.proofs.Lists.at_longer qs (idle ∷ []) i q at_i));
        lists = telling.lists_snoc by m r.told l1 y (telling.lists_set by m r.told vs id v w at refl (λ x h. h) r.lists (view_free by m r.told (of_pass n None e (k ∷ b)) idle seen refl refl goes))
            (view_free by m r.told (of_pass k None [] []) idle seen refl refl goes_y);
      }

  spent_is_view : (l : List E) → IsView by m l spent_view
  spent_is_view l = record {
    marked = λ no. absurd (true≢false (sym no));
    known = λ no. absurd (true≢false (sym no));
    claimed = tt;
    longest = λ no. absurd (true≢false (sym no));
    spent = λ _. refl;
  }

  pub joins : (id other n n' : ℕ) (e e' b b' : List ℕ) (seen seen' : List E)
      → let v : View E = view (of_pass n None e b) idle m seen in let v' : View E = view (of_pass n' None e' b') idle m seen' in Joins Rule id v other v' (joined v v') spent_view
  joins id other n n' e e' b b' seen seen' s r at not at1 =
      let vs : List (View E) = s.views in
      let qs : List Standing = map standing_of vs in
      let v : View E = view (of_pass n None e b) idle m seen in
      let v' : View E = view (of_pass n' None e' b') idle m seen' in
      let w : View E = joined v v' in
      let l1 : List (View E) = set vs id w in
      let l : List (View E) = set l1 other spent_view in
      let at' : get_elem? vs other ≡ some v' = sym (set_else vs id other w not) ∙ at1 in
      let q1 : map standing_of l1 ≡ qs = standing_kept vs id v w at refl in
      let standings_are : map standing_of l ≡ qs = standing_kept l1 other v' spent_view at1 refl ∙ q1 in
      let numbers_are : map numbers_of l ≡ set (set (map numbers_of vs) id (one_of (of_pass n None e b) (of_pass n' None e' b'))) other of_none = map-set numbers_of l1 other spent_view ∙ ap (λ z. set z other of_none) (map-set numbers_of vs id w) in
      let g = (r.lists.each id v at).known refl in
      let g' = (r.lists.each other v' at').known refl in
      let both = telling.longer_on by (n ∷ e) (n' ∷ e') seen seen' g.0 g'.0 (sym g.1 ∙ g'.1) g.2 g'.2 in
      let f : IsView by m r.told w = record {
        marked = λ _. refl;
        known = λ _. (both.0, g.1 ∙ both.1, telling.clear_both by (n ∷ e) (n' ∷ e') both.0 both.2 both.3);
        claimed = (both.4, (both.5, tt));
        longest = λ no. absurd (true≢false (sym no));
        spent = λ no. absurd (true≢false no);
      } in
      let part : (x : ℕ) → has x (own_numbers (of_pass n None e b)) ≡ true → has x (own_numbers w.numbers) ≡ true = λ x h. Rattle.viz_turn.proofs.ListLemmas.has_left x (n ∷ e) (n' ∷ e') h in
      let lists1 = telling.lists_set by m r.told vs id v w at refl part r.lists f in
      record {
        told = r.told;
        served = r.served;
        made = r.made;
        words_are = words_with s.words (length r.told) r.served r.made (waiting qs) _ r.words_are (ap waiting (sym standings_are));
        numbers = subst (AreNumbers r.made) (sym numbers_are) (numbering.joins r.made (map numbers_of vs) id other n n' e e' b b' r.numbers (at_map numbers_of vs id v at) not (at_map numbers_of vs other v' at'));
        turns = subst (AreTurns r.served) (sym standings_are) r.turns;
        home = λ none. r.home (subst NoneOut standings_are none);
        lists = record {
          each = each_set l1 other spent_view (λ _ u. IsView by m r.told u) (spent_is_view r.told) (λ j u _ at_u. lists1.each j u at_u);
          named = λ k x at_x. let o = lists1.named k x at_x in dite (ℕ_discrete o.0 other)
              (λ here. let is : o.1 ≡ v' = same_at l1 other o.1 v' (subst (λ (z : ℕ). get_elem? l1 z ≡ some o.1) here o.2) at1 in (
                id,
                w,
                at_else l1 other id spent_view w (λ same. not (sym same)) (at_here vs id w v at),
                refl,
                has_right (by x) (n ∷ e) (n' ∷ e') (subst (λ (z : View E). has (by x) (own_numbers z.numbers) ≡ true) is o.4),
              ))
              (λ no. (o.0, o.1, at_else l1 other o.0 spent_view o.1 no o.2, o.3, o.4));
        };
      }

  pub learns : (id : ℕ) (v : View E) (c : List (ℕ × Option S)) → v.mark ≡ m → Allows Rule 1 id (v, c) 0 (λ n. n) (λ r n. learned by (v, c) n)
  learns id v c is s r wide at small =
      let vs : List (View E) = s.views in
      let qs : List Standing = map standing_of vs in
      let w : View E = view v.numbers v.standing v.mark v.seen in
      let fit = r.lists.each id v at in
      let standings_are = standing_kept vs id v w at refl in
      let numbers_are = numbers_kept vs id v w at refl in
      let f : IsView by m r.told w = record { marked = fit.marked; known = fit.known; claimed = tt; longest = fit.longest; spent = fit.spent } in (
        w,
        keeps,
        tt,
        record {
          told = r.told;
          served = r.served;
          made = r.made;
          words_are = ap (λ ws. set ws 0 (get_or ws 0 0)) r.words_are ∙ ap (λ z. words4 (length r.told) r.served (waiting z) r.made) (sym standings_are);
          numbers = subst (AreNumbers r.made) (sym numbers_are) r.numbers;
          turns = subst (AreTurns r.served) (sym standings_are) r.turns;
          home = λ none. r.home (subst NoneOut standings_are none);
          lists = record {
            each = each_set vs id w (λ _ u. IsView by m r.told u) f (λ j u _ at_u. r.lists.each j u at_u);
            named = λ k x at_x. let o = r.lists.named k x at_x in dite (ℕ_discrete o.0 id)
                (λ here. let same : o.1 ≡ v = same_at vs id o.1 v (subst (λ (z : ℕ). get_elem? vs z ≡ some o.1) here o.2) at in
                (id, w, at_here vs id w v at, subst (λ (z : View E). z.numbers.live ≡ true) same o.3, subst (λ (z : View E). has (by x) (own_numbers z.numbers) ≡ true) same o.4))
                (λ no. (o.0, o.1, at_else vs id o.0 w o.1 no o.2, o.3, o.4));
          };
        },
        (refl, refl, fit.claimed),
      )

  pub opens : (st : S) → tale st ≡ [] → mark st ≡ m → Rule (opening (0 ∷ 0 ∷ 0 ∷ 1 ∷ []) (Some st ∷ []) (first_view m))
  opens st none is =
      let one : (F : ℕ → View E → Type 0) → F 0 (first_view m) → (i : ℕ) (v : View E) → get_elem? (first_view m ∷ []) i ≡ some v → F i v = λ F f i v at. Rattle.viz_turn.proofs.ListLemmas.each_snoc [] (first_view m) F f (λ j u at_u. absurd (some-ne-none u (sym at_u))) i v at in
      let oneq : (F : ℕ → Standing → Type 0) → F 0 idle → (i : ℕ) (q : Standing) → get_elem? (idle ∷ []) i ≡ some q → F i q = λ F f i v at. Rattle.viz_turn.proofs.ListLemmas.each_snoc [] idle F f (λ j u at_u. absurd (some-ne-none u (sym at_u))) i v at in
      record {
        told = [];
        served = 0;
        made = 1;
        words_are = refl;
        numbers = numbering.begins;
        turns = record {
          few = omega arith;
          within = oneq (λ _ q. (t : ℕ) → q.ticket ≡ Some t → (0 ≤ t) × (t < 0)) (λ t no. absurd (cc));
          apart = λ i j q r at_i at_j t is_q is_r. oneq (λ i' q'. q'.ticket ≡ Some t → i' ≡ j) (λ no. absurd (cc)) i q at_i is_q;
          holder = oneq (λ _ q. q.turn ≡ true → q.ticket ≡ Some 0) (λ no. absurd (true≢false (sym no)));
          outs = oneq (λ _ q. q.out ≡ true → q.turn ≡ true) (λ no. absurd (true≢false (sym no)));
        };
        home = λ _. (st, refl, none, is);
        lists = record {
          each = one (λ _ v. IsView by m [] v) (view_free by m [] (of_pass 0 None [] []) idle [] refl refl (telling.all_of_it by (0 ∷ []) []));
          named = λ k e at_e. absurd (some-ne-none e (sym at_e));
        };
      }
