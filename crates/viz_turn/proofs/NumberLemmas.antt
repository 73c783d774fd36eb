-- Group 1: each step keeps the numbers.
use Rattle.std.proofs.Common.{◌≡◌, ◌≢◌, ◌⊎◌, ℕ, zero, suc, ◌+◌, ◌<◌, ◌^◌, true, Some, None, List, [], ◌∷◌, ◌++◌, length, set, sym, refl, ap, ◌∙◌, subst, ⊎_elim, inl, inr, arith, true≢false, not}
use mathlib.Core.Option.{some, some-injective, some-ne-none}
use mathlib.Core.Logic.{dite}
use native.Mathlib.Decide.{ℕ_discrete}
use lib.ListN.{get_elem?}
use Rattle.std.proofs.lemmas.Bool.{false_from_ne_true, both_ways, and_parts}
use Rattle.atomic_table.proofs.Lists.{at_set, at_longer}
use Rattle.viz_turn.specs.Tales.{has, once, IsWholeBy}
use Rattle.viz_turn.specs.Steps.Numbers.{spares, own_numbers, all_numbers, needs_of, needs, Live, IsSpare, IsBorn, AreNumbers}
use Rattle.viz_turn.specs.Steps.Kinds.{of_pass, of_none, or_zero}
use Rattle.viz_turn.specs.declared.view.Numbers.{Numbers}
use Rattle.viz_turn.proofs.ListLemmas.{at_here, at_else, at_end, same_at, has_either, has_left, has_right, has_head, has_tail, has_cons, once_cons, once_append}

abbrev Apart : List Numbers → Type 0
Apart ws = (i j : ℕ) (v w : Numbers) → Live ws i v → Live ws j w → (x : ℕ) → has x (all_numbers v) ≡ true → has x (all_numbers w) ≡ true → i ≡ j

-- a new list l, of which the live seats are w at id, and others, O
module _ (l : List Numbers) (id : ℕ) (w : Numbers) (O : ℕ → Numbers → Type 0) (cases : (j : ℕ) (u : Numbers) → Live l j u → ((j ≡ id) × (w ≡ u)) ⊎ O j u) where
  pub each_by : (F : ℕ → Numbers → Type 0) → F id w → ((j : ℕ) (u : Numbers) → O j u → F j u) → (j : ℕ) (u : Numbers) → Live l j u → F j u
  each_by F mine others j u e = ⊎_elim (λ (x : (j ≡ id) × (w ≡ u)). subst (λ (y : ℕ × Numbers). F y.0 y.1) (λ i. (sym x.0 i, x.1 i)) mine) (λ (x : O j u). others j u x) (cases j u e)

  pub apart_by : ((j k : ℕ) (u v : Numbers) (x : ℕ) → O j u → O k v → has x (all_numbers u) ≡ true → has x (all_numbers v) ≡ true → j ≡ k)
      → ((j : ℕ) (u : Numbers) (x : ℕ) → O j u → has x (all_numbers w) ≡ true → has x (all_numbers u) ≡ true → ⊥) → Apart l
  apart_by others cross i j u v at_u at_v x in_u in_v =
      each_by (λ i' u'. has x (all_numbers u') ≡ true → i' ≡ j)
      (λ in_w. each_by (λ j' v'. has x (all_numbers v') ≡ true → id ≡ j') (λ _. refl) (λ j' v' o in_o. absurd (cross j' v' x o in_w in_o)) j v at_v in_v)
      (λ i' u' o in_o. each_by (λ j' v'. has x (all_numbers v') ≡ true → i' ≡ j') (λ in_w. absurd (cross i' u' x o in_w in_o)) (λ j' v' o' in_o'. others i' j' u' v' x o o' in_o in_o') j v at_v in_v)
      i u at_u in_u

cases_set : (ws : List Numbers) (id : ℕ) (w : Numbers) (j : ℕ) (u : Numbers) → Live (set ws id w) j u → ((j ≡ id) × (w ≡ u)) ⊎ ((j ≢ id) × Live ws j u)
cases_set ws id w j u e = ⊎_elim inl (λ (x : (j ≢ id) × (get_elem? ws j ≡ some u)). inr (x.0, (x.1, e.1))) (at_set ws id j w u e.0)

cases_snoc : (ws : List Numbers) (w : Numbers) (j : ℕ) (u : Numbers) → Live (ws ++ w ∷ []) j u → ((j ≡ length ws) × (w ≡ u)) ⊎ Live ws j u
cases_snoc ws w j u e = ⊎_elim (λ x. inr (x, e.1)) inl (at_end ws w u j e.0)

needs_set : (ws : List Numbers) (i : ℕ) (v w : Numbers) → get_elem? ws i ≡ some v → needs (set ws i w) + needs_of v.live v.spare ≡ needs ws + needs_of w.live w.spare
needs_set [] i v w e = absurd (some-ne-none v (sym e))
needs_set (x ∷ xs) zero v w e = let is : needs_of x.live x.spare ≡ needs_of v.live v.spare = ap (λ (m : Numbers). needs_of m.live m.spare) (some-injective x v e) in omega arith
needs_set (x ∷ xs) (suc i) v w e = let r = needs_set xs i v w e in omega arith

needs_snoc : (ws : List Numbers) (w : Numbers) → needs (ws ++ w ∷ []) ≡ needs ws + needs_of w.live w.spare
needs_snoc [] w = omega arith
needs_snoc (x ∷ xs) w = let r = needs_snoc xs w in omega arith

-- who was born of whom stays so while a seat's born and own numbers only grow
born_set : (ws : List Numbers) (id : ℕ) (v w : Numbers) → Live ws id v → w.live ≡ true → ((x : ℕ) → has x v.born ≡ true → has x w.born ≡ true) → ((x : ℕ) → has x (own_numbers v) ≡ true → has x (own_numbers w) ≡ true)
    → (m : ℕ) → IsBorn ws m → IsBorn (set ws id w) m
born_set ws id v w at live more_born more_own m b = let u : Numbers = b.parent in dite (ℕ_discrete b.seat id)
    (λ here. let is : u ≡ v = same_at ws id u v (subst (λ (z : ℕ). get_elem? ws z ≡ some u) here b.live.0) at.0 in
    record {
      seat = id;
      parent = w;
      lesser = b.lesser;
      live = (at_here ws id w v at.0, live);
      born = more_born m (subst (λ (z : Numbers). has m z.born ≡ true) is b.born);
      own = more_own b.lesser (subst (λ (z : Numbers). has b.lesser (own_numbers z) ≡ true) is b.own);
      less = b.less;
    })
    (λ not. record { seat = b.seat; parent = u; lesser = b.lesser; live = (at_else ws id b.seat w u not b.live.0, b.live.1); born = b.born; own = b.own; less = b.less })

born_snoc : (ws : List Numbers) (w : Numbers) (m : ℕ) → IsBorn ws m → IsBorn (ws ++ w ∷ []) m
born_snoc ws w m b = record { seat = b.seat; parent = b.parent; lesser = b.lesser; live = (at_longer ws (w ∷ []) b.seat b.parent b.live.0, b.live.1); born = b.born; own = b.own; less = b.less }

-- a new number
pub draws : (made : ℕ) (ws : List Numbers) (id n : ℕ) (e b : List ℕ) → AreNumbers made ws → get_elem? ws id ≡ some (of_pass n None e b) → made + 1 < 2 ^ 64 → AreNumbers (made + 1) (set ws id (of_pass n (Some made) e b))
draws made ws id n e b r at small =
    let v : Numbers = of_pass n None e b in
    let w : Numbers = of_pass n (Some made) e b in
    let l : List Numbers = set ws id w in
    let O : ℕ → Numbers → Type 0 = λ j u. (j ≢ id) × Live ws j u in
    let cases = cases_set ws id w in
    let mine : Live ws id v = (at, refl) in
    let outside : has made (n ∷ e) ≡ true → ⊥ = λ h. let lt = r.below id v mine made h in omega arith in
    record {
      below = each_by l id w O cases (λ _ u. (x : ℕ) → has x (all_numbers u) ≡ true → x < made + 1)
          (λ x h. ⊎_elim (λ (is : x ≡ made). omega arith) (λ h'. let lt = r.below id v mine x h' in omega arith) (has_cons x made (n ∷ e) h))
          (λ j u o x h. let lt = r.below j u o.1 x h in omega arith);
      born_below = each_by l id w O cases (λ _ u. (x : ℕ) → has x u.born ≡ true → x < made + 1)
          (λ x h. let lt = r.born_below id v mine x h in omega arith)
          (λ j u o x h. let lt = r.born_below j u o.1 x h in omega arith);
      apart = apart_by l id w O cases (λ j k u u' x o o' h h'. r.apart j k u u' o.1 o'.1 x h h')
          (λ j u x o h h'. ⊎_elim (λ (is : x ≡ made). let lt = r.below j u o.1 x h' in omega arith) (λ h''. o.0 (r.apart j id u v o.1 mine x h' h'')) (has_cons x made (n ∷ e) h));
      distinct = each_by l id w O cases (λ _ u. once (all_numbers u) ≡ true) (once_cons made (n ∷ e) (false_from_ne_true (has made (n ∷ e)) outside) (r.distinct id v mine)) (λ j u o. r.distinct j u o.1);
      spare = each_by l id w O cases (λ _ u. (s : ℕ) → u.spare ≡ Some s → IsSpare u s)
          (λ s is. let same : made ≡ s = ap (λ o. or_zero o) is in
          subst (IsSpare w) same (record { above = r.below id v mine n (has_head n e); new = false_from_ne_true (has made e) (λ h. outside (has_tail made n e h)); latest = r.born_below id v mine }))
          (λ j u o. r.spare j u o.1);
      chain = each_by l id w O cases (λ _ u. (m : ℕ) → has m (own_numbers u) ≡ true → 0 < m → IsBorn l m)
          (λ m h pos. born_set ws id v w mine refl (λ x h. h) (λ x h. h) m (r.chain id v mine m h pos))
          (λ j u o m h pos. born_set ws id v w mine refl (λ x h. h) (λ x h. h) m (r.chain j u o.1 m h pos));
      room = let c = needs_set ws id v w at in let old = r.room in omega arith;
      small = small;
    }

-- a number is given to a new seat
pub splits : (made : ℕ) (ws : List Numbers) (id n s : ℕ) (e b : List ℕ) → AreNumbers made ws → get_elem? ws id ≡ some (of_pass n (Some s) e b) → AreNumbers made (set ws id (of_pass n None e (s ∷ b)) ++ of_pass s None [] [] ∷ [])
splits made ws id n s e b r at =
    let v : Numbers = of_pass n (Some s) e b in
    let w : Numbers = of_pass n None e (s ∷ b) in
    let y : Numbers = of_pass s None [] [] in
    let l1 : List Numbers = set ws id w in
    let l : List Numbers = l1 ++ y ∷ [] in
    let mine : Live ws id v = (at, refl) in
    let over = r.spare id v mine s refl in
    let O1 : ℕ → Numbers → Type 0 = λ j u. (j ≢ id) × Live ws j u in
    let c1 = cases_set ws id w in
    let c2 = cases_snoc l1 y in
    let here : Live l1 id w = (at_here ws id w v at, refl) in
    let apart1 = apart_by l1 id w O1 c1 (λ j k u u' x o o' h h'. r.apart j k u u' o.1 o'.1 x h h') (λ j u x o h h'. o.0 (r.apart j id u v o.1 mine x h' (has_tail x s (n ∷ e) h))) in
    let grown = λ (m : ℕ) (c : IsBorn ws m). born_snoc l1 y m (born_set ws id v w mine refl (λ x h. has_tail x s b h) (λ x h. h) m c) in
    record {
      below = each_by l (length l1) y (Live l1) c2 (λ _ u. (x : ℕ) → has x (all_numbers u) ≡ true → x < made)
          (λ x h. ⊎_elim (λ (is : x ≡ s). let lt = r.below id v mine s (has_head s (n ∷ e)) in omega arith) (λ h'. absurd (true≢false (sym h'))) (has_cons x s [] h))
          (each_by l1 id w O1 c1 (λ _ u. (x : ℕ) → has x (all_numbers u) ≡ true → x < made) (λ x h. r.below id v mine x (has_tail x s (n ∷ e) h)) (λ j u o. r.below j u o.1));
      born_below = each_by l (length l1) y (Live l1) c2 (λ _ u. (x : ℕ) → has x u.born ≡ true → x < made)
          (λ x h. absurd (true≢false (sym h)))
          (each_by l1 id w O1 c1 (λ _ u. (x : ℕ) → has x u.born ≡ true → x < made)
          (λ x h. ⊎_elim (λ (is : x ≡ s). let lt = r.below id v mine s (has_head s (n ∷ e)) in omega arith) (λ h'. r.born_below id v mine x h') (has_cons x s b h))
          (λ j u o. r.born_below j u o.1));
      apart = apart_by l (length l1) y (Live l1) c2
          (λ j k u u' x o o' h h'. apart1 j k u u' o o' x h h')
          (λ j u x o h h'. ⊎_elim
          (λ (is : x ≡ s). each_by l1 id w O1 c1 (λ j u. has s (all_numbers u) ≡ true → ⊥)
          (λ in_w. ⊎_elim (λ (same : s ≡ n). let lt = over.above in omega arith) (λ in_e. both_ways (has s e) over.new in_e) (has_cons s n e in_w))
          (λ j u o in_u. o.0 (r.apart j id u v o.1 mine s in_u (has_head s (n ∷ e)))) j u o (subst (λ (z : ℕ). has z (all_numbers u) ≡ true) is h'))
          (λ none. true≢false (sym none)) (has_cons x s [] h));
      distinct = each_by l (length l1) y (Live l1) c2 (λ _ u. once (all_numbers u) ≡ true) refl
          (each_by l1 id w O1 c1 (λ _ u. once (all_numbers u) ≡ true) (and_parts (not (has s (n ∷ e))) (once (n ∷ e)) (r.distinct id v mine)).1 (λ j u o. r.distinct j u o.1));
      spare = each_by l (length l1) y (Live l1) c2 (λ _ u. (s : ℕ) → u.spare ≡ Some s → IsSpare u s)
          (λ s is. absurd (cc))
          (each_by l1 id w O1 c1 (λ _ u. (s : ℕ) → u.spare ≡ Some s → IsSpare u s) (λ s is. absurd (cc)) (λ j u o. r.spare j u o.1));
      chain = each_by l (length l1) y (Live l1) c2 (λ _ u. (m : ℕ) → has m (own_numbers u) ≡ true → 0 < m → IsBorn l m)
          (λ m h pos. ⊎_elim (λ (is : m ≡ s). record { seat = id; parent = w; lesser = n; live = (at_longer l1 (y ∷ []) id w here.0, refl); born = subst (λ (z : ℕ). has z (s ∷ b) ≡ true) (sym is) (has_head s b); own = has_head n e; less = let lt = over.above in omega arith }) (λ none. absurd (true≢false (sym none))) (has_cons m s [] h))
          (each_by l1 id w O1 c1 (λ _ u. (m : ℕ) → has m (own_numbers u) ≡ true → 0 < m → IsBorn l m) (λ m h pos. grown m (r.chain id v mine m h pos)) (λ j u o m h pos. grown m (r.chain j u o.1 m h pos)));
      room = let c = needs_set ws id v w at in let d = needs_snoc l1 y in let old = r.room in omega arith;
      small = r.small;
    }

-- two seats become one, and the other is spent
pub joins : (made : ℕ) (ws : List Numbers) (id other n n' : ℕ) (e e' b b' : List ℕ) → AreNumbers made ws → get_elem? ws id ≡ some (of_pass n None e b) → ¬ (other ≡ id) → get_elem? ws other ≡ some (of_pass n' None e' b')
    → AreNumbers made (set (set ws id (of_pass n None (e ++ n' ∷ e') (b ++ b'))) other of_none)
joins made ws id other n n' e e' b b' r at not at' =
    let v : Numbers = of_pass n None e b in
    let v' : Numbers = of_pass n' None e' b' in
    let w : Numbers = of_pass n None (e ++ n' ∷ e') (b ++ b') in
    let l1 : List Numbers = set ws id w in
    let l : List Numbers = set l1 other of_none in
    let mine : Live ws id v = (at, refl) in
    let its : Live ws other v' = (at', refl) in
    let at1 : get_elem? l1 other ≡ some v' = at_else ws id other w v' not at' in
    let O : ℕ → Numbers → Type 0 = λ j u. (j ≢ id) × (j ≢ other) × Live ws j u in
    let cases : (j : ℕ) (u : Numbers) → Live l j u → ((j ≡ id) × (w ≡ u)) ⊎ O j u = λ j u a. ⊎_elim
    (λ (x : (j ≡ other) × (of_none ≡ u)). absurd (true≢false (sym a.1 ∙ ap (λ (z : Numbers). z.live) (sym x.1))))
    (λ (x : (j ≢ other) × (get_elem? l1 j ≡ some u)). ⊎_elim inl (λ (y : (j ≢ id) × (get_elem? ws j ≡ some u)). inr (y.0, x.0, (y.1, a.1))) (at_set ws id j w u x.1))
    (at_set l1 other j of_none u a.0) in
    let here : Live l id w = (at_else l1 other id of_none w (λ same. not (sym same)) (at_here ws id w v at), refl) in
    let part : (x : ℕ) → has x (own_numbers w) ≡ true → (has x (own_numbers v) ≡ true) ⊎ (has x (own_numbers v') ≡ true) = λ x h. has_either x (n ∷ e) (n' ∷ e') h in
    let born : (x : ℕ) → has x (b ++ b') ≡ true → (has x b ≡ true) ⊎ (has x b' ≡ true) = λ x h. has_either x b b' h in
    let grown : (m : ℕ) → IsBorn ws m → IsBorn l m = λ m c. dite (ℕ_discrete c.seat id)
    (λ same. let is : c.parent ≡ v = same_at ws id c.parent v (subst (λ (z : ℕ). get_elem? ws z ≡ some c.parent) same c.live.0) at in
    record {
      seat = id;
      parent = w;
      lesser = c.lesser;
      live = here;
      born = has_left m b b' (subst (λ (z : Numbers). has m z.born ≡ true) is c.born);
      own = has_left c.lesser (n ∷ e) (n' ∷ e') (subst (λ (z : Numbers). has c.lesser (own_numbers z) ≡ true) is c.own);
      less = c.less;
    })
    (λ apart. dite (ℕ_discrete c.seat other)
    (λ same. let is : c.parent ≡ v' = same_at ws other c.parent v' (subst (λ (z : ℕ). get_elem? ws z ≡ some c.parent) same c.live.0) at' in
    record {
      seat = id;
      parent = w;
      lesser = c.lesser;
      live = here;
      born = has_right m b b' (subst (λ (z : Numbers). has m z.born ≡ true) is c.born);
      own = has_right c.lesser (n ∷ e) (n' ∷ e') (subst (λ (z : Numbers). has c.lesser (own_numbers z) ≡ true) is c.own);
      less = c.less;
    })
    (λ apart'. record {
      seat = c.seat;
      parent = c.parent;
      lesser = c.lesser;
      live = (at_else l1 other c.seat of_none c.parent apart' (at_else ws id c.seat w c.parent apart c.live.0), c.live.1);
      born = c.born;
      own = c.own;
      less = c.less;
    })) in
    record {
      below = each_by l id w O cases (λ _ u. (x : ℕ) → has x (all_numbers u) ≡ true → x < made)
          (λ x h. ⊎_elim (λ h'. r.below id v mine x h') (λ h'. r.below other v' its x h') (part x h))
          (λ j u o. r.below j u o.2);
      born_below = each_by l id w O cases (λ _ u. (x : ℕ) → has x u.born ≡ true → x < made)
          (λ x h. ⊎_elim (λ h'. r.born_below id v mine x h') (λ h'. r.born_below other v' its x h') (born x h))
          (λ j u o. r.born_below j u o.2);
      apart = apart_by l id w O cases (λ j k u u' x o o' h h'. r.apart j k u u' o.2 o'.2 x h h')
          (λ j u x o h h'. ⊎_elim (λ h''. o.0 (r.apart j id u v o.2 mine x h' h'')) (λ h''. o.1 (r.apart j other u v' o.2 its x h' h'')) (part x h));
      distinct = each_by l id w O cases (λ _ u. once (all_numbers u) ≡ true) (once_append (n ∷ e) (n' ∷ e') (r.distinct id v mine) (r.distinct other v' its) (λ x h h'. not (sym (r.apart id other v v' mine its x h h')))) (λ j u o. r.distinct j u o.2);
      spare = each_by l id w O cases (λ _ u. (s : ℕ) → u.spare ≡ Some s → IsSpare u s)
          (λ s is. absurd (cc)) (λ j u o. r.spare j u o.2);
      chain = each_by l id w O cases (λ _ u. (m : ℕ) → has m (own_numbers u) ≡ true → 0 < m → IsBorn l m)
          (λ m h pos. ⊎_elim (λ h'. grown m (r.chain id v mine m h' pos)) (λ h'. grown m (r.chain other v' its m h' pos)) (part m h))
          (λ j u o m h pos. grown m (r.chain j u o.2 m h pos));
      room = let c = needs_set ws id v w at in let d = needs_set l1 other v' of_none at1 in let old = r.room in omega arith;
      small = r.small;
    }

-- a whole pass has every number: the law on whole passes, from the numbers alone
all_within : (made : ℕ) (ws : List Numbers) (id : ℕ) (v : Numbers) → AreNumbers made ws → Live ws id v → IsWholeBy (own_numbers v) v.born → (bound m : ℕ) → m < bound → (j : ℕ) (u : Numbers) → Live ws j u → has m (own_numbers u) ≡ true → has m (own_numbers v) ≡ true
all_within made ws id v r mine whole zero m less j u at h = absurd (omega arith)
all_within made ws id v r mine whole (suc bound) m less j u at h = dite (ℕ_discrete m 0)
    (λ none. subst (λ (z : ℕ). has z (own_numbers v) ≡ true) (sym none) whole.first)
    (λ some_m. let c = r.chain j u at m h (omega arith) in
    let lt : c.lesser < m = c.less in
    let in_v = all_within made ws id v r mine whole bound c.lesser (omega arith) c.seat c.parent c.live c.own in
    let same : c.seat ≡ id = r.apart c.seat id c.parent v c.live mine c.lesser (has_right c.lesser (spares c.parent.spare) (own_numbers c.parent) c.own) (has_right c.lesser (spares v.spare) (own_numbers v) in_v) in
    let is : c.parent ≡ v = same_at ws id c.parent v (subst (λ (z : ℕ). get_elem? ws z ≡ some c.parent) same c.live.0) mine.0 in
    whole.all m (subst (λ (z : Numbers). has m z.born ≡ true) is c.born))

pub whole_has : (made : ℕ) (ws : List Numbers) (id : ℕ) (v : Numbers) → AreNumbers made ws → Live ws id v → IsWholeBy (own_numbers v) v.born → (m j : ℕ) (u : Numbers) → Live ws j u → has m (own_numbers u) ≡ true → has m (own_numbers v) ≡ true
whole_has made ws id v r mine whole m = all_within made ws id v r mine whole (suc m) m (omega arith)

-- the first seat
pub begins : AreNumbers 1 (of_pass 0 None [] [] ∷ [])
begins =
    let w : Numbers = of_pass 0 None [] [] in
    let O : ℕ → Numbers → Type 0 = λ _ _. ⊥ in
    let cases : (j : ℕ) (u : Numbers) → Live (w ∷ []) j u → ((j ≡ 0) × (w ≡ u)) ⊎ O j u = λ j u a. ⊎_elim (λ (x : get_elem? [] j ≡ some u). absurd (some-ne-none u (sym x))) inl (at_end [] w u j a.0) in
    let zero_only : (x : ℕ) → has x (0 ∷ []) ≡ true → x ≡ 0 = λ x h. ⊎_elim (λ is. is) (λ none. absurd (true≢false (sym none))) (has_cons x 0 [] h) in
    record {
      below = each_by (w ∷ []) 0 w O cases (λ _ u. (x : ℕ) → has x (all_numbers u) ≡ true → x < 1) (λ x h. let is = zero_only x h in omega arith) (λ _ _ o. absurd o);
      born_below = each_by (w ∷ []) 0 w O cases (λ _ u. (x : ℕ) → has x u.born ≡ true → x < 1) (λ x h. absurd (true≢false (sym h))) (λ _ _ o. absurd o);
      apart = apart_by (w ∷ []) 0 w O cases (λ _ _ _ _ _ o. absurd o) (λ _ _ _ o. absurd o);
      distinct = each_by (w ∷ []) 0 w O cases (λ _ u. once (all_numbers u) ≡ true) refl (λ _ _ o. absurd o);
      spare = each_by (w ∷ []) 0 w O cases (λ _ u. (s : ℕ) → u.spare ≡ Some s → IsSpare u s) (λ s is. absurd (cc)) (λ _ _ o. absurd o);
      chain = each_by (w ∷ []) 0 w O cases (λ _ u. (m : ℕ) → has m (own_numbers u) ≡ true → 0 < m → IsBorn (w ∷ []) m) (λ m h pos. let is = zero_only m h in absurd (omega arith)) (λ _ _ o. absurd o);
      room = omega arith;
      small = omega arith;
    }
