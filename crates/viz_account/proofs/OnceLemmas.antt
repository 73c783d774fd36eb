-- Each entry of an account's history is told by one line.
use Rattle.std.proofs.Common.{◌≡◌, ℕ, zero, suc, ◌+◌, ◌<◌, ◌≤◌, ⊎_elim, Bool, true, false, true≢false, not, cond, ◌||◌, ◌==◌, nat_eq, List, [], ◌∷◌, ◌++◌, length, flat_map, slice_get, Some, refl, sym, ap, ◌∙◌, arith}
use Rattle.std.proofs.lemmas.Bool.{or_cases, and_parts, not-true, eqb-true, eq-eqb}
use Rattle.viz_base.specs.declared.port.Port as port
use Rattle.viz_turn.specs.Tales.{has, once, entries_of}
use Rattle.viz_entries.specs.declared.entry.Entry.{Entry}
use Rattle.viz_entries.specs.History.{by_of}
use Rattle.viz_script.specs.Orders.{Asked}
use Rattle.viz_report.specs.declared.line.Line.{Line}
use Rattle.viz_account.specs.Account.{edited, places_from, places, AreActors, IsAccountOf}
use Rattle.viz_account.specs.Laws.{times, all_edited}

-- ---- how often

pub times_append : (n : ℕ) (a b : List ℕ) → times n (a ++ b) ≡ times n a + times n b
times_append n [] b = let none : times n b ≡ 0 + times n b = omega arith in none
times_append n (m ∷ a) b = by (nat_eq n m) (times_append n a b)
  where
    by : (t : Bool) → times n (a ++ b) ≡ times n a + times n b → cond t (times n (a ++ b) + 1) (times n (a ++ b)) ≡ cond t (times n a + 1) (times n a) + times n b
    by true r = let s : times n (a ++ b) + 1 ≡ (times n a + 1) + times n b = omega (arith, r) in s
    by false r = r

-- a number that isn't in front
pub not_first : (n m t : ℕ) → (n ≡ m → ⊥) → cond (nat_eq n m) (t + 1) t ≡ t
not_first n m t differs = by (nat_eq n m) refl
  where
    by : (b : Bool) → nat_eq n m ≡ b → cond b (t + 1) t ≡ t
    by true e = absurd (differs (eqb-true n m e))
    by false e = refl

-- ---- places

places_below : (ps : List ℕ) (n a : ℕ) (h : List Entry) → n < a → times n (places_from ps a h) ≡ 0
places_below ps n a [] l = refl
places_below ps n a (e ∷ h) l = by (has e.pass ps) (places_below ps n (a + 1) h (omega (arith, l)))
  where
    by : (b : Bool) → times n (places_from ps (a + 1) h) ≡ 0 → times n (cond b (a ∷ places_from ps (a + 1) h) (places_from ps (a + 1) h)) ≡ 0
    by true r = not_first n a (times n (places_from ps (a + 1) h)) (λ e. omega (arith, e, l)) ∙ r
    by false r = r

-- the place of an entry stands once among those of its passes, and not among others
pub places_here : (ps : List ℕ) (a k : ℕ) (h : List Entry) (e : Entry) → slice_get h k ≡ Some e → times (a + k) (places_from ps a h) ≡ cond (has e.pass ps) 1 0
places_here ps a k [] e at = let bad : ⊥ = cc in absurd bad
places_here ps a zero (d ∷ h) e at =
    let same : d ≡ e = cc in
    ap (λ n. times n (places_from ps a (d ∷ h))) (let s : a + 0 ≡ a = omega arith in s)
    ∙ by (has d.pass ps) (places_below ps a (a + 1) h (omega arith))
    ∙ ap (λ x. cond (has x.pass ps) 1 0) same
  where
    by : (b : Bool) → times a (places_from ps (a + 1) h) ≡ 0 → times a (cond b (a ∷ places_from ps (a + 1) h) (places_from ps (a + 1) h)) ≡ cond b 1 0
    by true r = ap (λ t. cond t (times a (places_from ps (a + 1) h) + 1) (times a (places_from ps (a + 1) h))) (eq-eqb a a refl) ∙ ap (λ n. n + 1) r
    by false r = r
places_here ps a (suc k) (d ∷ h) e at =
    by (has d.pass ps) (ap (λ n. times n (places_from ps (a + 1) h)) (let s : a + suc k ≡ (a + 1) + k = omega arith in s) ∙ places_here ps (a + 1) k h e at)
  where
    by : (b : Bool) → times (a + suc k) (places_from ps (a + 1) h) ≡ cond (has e.pass ps) 1 0 → times (a + suc k) (cond b (a ∷ places_from ps (a + 1) h) (places_from ps (a + 1) h)) ≡ cond (has e.pass ps) 1 0
    by true r = not_first (a + suc k) a (times (a + suc k) (places_from ps (a + 1) h)) (λ e. omega (arith, e)) ∙ r
    by false r = r

-- ---- passes of several actors

pub has_both : (x : ℕ) (a b : List ℕ) → has x (a ++ b) ≡ (has x a || has x b)
has_both x [] b = refl
has_both x (y ∷ a) b = by (x == y) (has_both x a b)
  where
    by : (t : Bool) → has x (a ++ b) ≡ (has x a || has x b) → (t || has x (a ++ b)) ≡ ((t || has x a) || has x b)
    by true r = refl
    by false r = r

once_behind : (a b : List ℕ) → once (a ++ b) ≡ true → once b ≡ true
once_behind [] b h = h
once_behind (y ∷ a) b h = once_behind a b (and_parts (not (has y (a ++ b))) (once (a ++ b)) h).1

once_apart : (x : ℕ) (a b : List ℕ) → once (a ++ b) ≡ true → has x a ≡ true → has x b ≡ true → ⊥
once_apart x [] b h in_a in_b = true≢false (sym in_a)
once_apart x (y ∷ a) b h in_a in_b =
    let p = and_parts (not (has y (a ++ b))) (once (a ++ b)) h in
    ⊎_elim
    (λ here.
    let same : x ≡ y = eqb-true x y here in
    let both : has x (a ++ b) ≡ true = has_both x a b ∙ or_true (has x a) (has x b) in_b in
    true≢false (sym (ap (λ z. has z (a ++ b)) (sym same) ∙ both) ∙ not-true (has y (a ++ b)) p.0))
    (λ more. once_apart x a b p.1 more in_b)
    (or_cases (x == y) (has x a) in_a)
  where
    or_true : (s t : Bool) → t ≡ true → (s || t) ≡ true
    or_true true t e = refl
    or_true false t e = e

-- how many of the actors have the pass
hits : ℕ → List (List ℕ) → ℕ
hits x [] = 0
hits x (ps ∷ passes) = cond (has x ps) 1 0 + hits x passes

hits_one : (x : ℕ) (passes : List (List ℕ)) → once (flat_map (λ ps. ps) passes) ≡ true → hits x passes ≡ cond (has x (flat_map (λ ps. ps) passes)) 1 0
unfolding hits
hits_one x [] h = refl
hits_one x (ps ∷ passes) h =
    let rest = flat_map (λ (qs : List ℕ). qs) passes in
    ap (λ n. cond (has x ps) 1 0 + n) (hits_one x passes (once_behind ps rest h))
    ∙ by (has x ps) (has x rest) (once_apart x ps rest h)
    ∙ ap (λ b. cond b 1 0) (sym (has_both x ps rest))
  where
    by : (s t : Bool) → (s ≡ true → t ≡ true → ⊥) → cond s 1 0 + cond t 1 0 ≡ cond (s || t) 1 0
    by true true none = absurd (none refl refl)
    by true false none = refl
    by false true none = refl
    by false false none = refl

-- no more entries of passes than entries
pub few : (ns : List ℕ) (h : List Entry) → length (entries_of by_of ns h) ≤ length h
few ns [] = omega arith
few ns (e ∷ h) = by (has e.pass ns) (few ns h)
  where
    by : (b : Bool) → length (entries_of by_of ns h) ≤ length h → length (cond b (e ∷ entries_of by_of ns h) (entries_of by_of ns h)) ≤ length (e ∷ h)
    by true r = omega (arith, r)
    by false r = omega (arith, r)

-- where no other entry is there, each is by one of the passes
all_by : (ns : List ℕ) (h : List Entry) (k : ℕ) (e : Entry) → entries_of by_of ns h ≡ h → slice_get h k ≡ Some e → has e.pass ns ≡ true
all_by ns [] k e whole at = let bad : ⊥ = cc in absurd bad
all_by ns (d ∷ h) k e whole at = by (has d.pass ns) refl whole (few ns h) k at (λ j rest found. all_by ns h j e rest found)
  where
    by : (b : Bool) → has d.pass ns ≡ b → cond b (d ∷ entries_of by_of ns h) (entries_of by_of ns h) ≡ d ∷ h → length (entries_of by_of ns h) ≤ length h → (j : ℕ) → slice_get (d ∷ h) j ≡ Some e
        → ((i : ℕ) → entries_of by_of ns h ≡ h → slice_get h i ≡ Some e → has e.pass ns ≡ true) → has e.pass ns ≡ true
    by true is w short zero found rest = let same : d ≡ e = cc in ap (λ x. has x.pass ns) (sym same) ∙ is
    by true is w short (suc i) found rest = rest i (let tail : entries_of by_of ns h ≡ h = cc in tail) found
    by false is w short j found rest = let bad : ⊥ = omega (arith, short, ap length w) in absurd bad

-- ---- accounts

sum_of : ℕ → List (List ℕ) → List Entry → ℕ
sum_of n [] h = 0
sum_of n (ps ∷ passes) h = times n (places ps h) + sum_of n passes h

module _ {P : Type 0} (m : port.Ghosts P) (limit : ℕ) (h : List Entry) (ends : List ℕ) where
  told_sum : (n : ℕ) (passes : List (List ℕ)) (script : List (List (List Asked))) (lines : List (List (List Line))) (before after : List P)
      → AreActors m limit h passes script lines ends before after → times n (all_edited lines) ≡ sum_of n passes h
  unfolding sum_of
  told_sum n [] [] [] before after a = refl
  told_sum n [] [] (l ∷ lines) before after a = absurd a
  told_sum n [] (s ∷ script) [] before after a = absurd a
  told_sum n [] (s ∷ script) (l ∷ lines) before after a = absurd a
  told_sum n (ps ∷ passes) [] [] before after a = absurd a
  told_sum n (ps ∷ passes) [] (l ∷ lines) before after a = absurd a
  told_sum n (ps ∷ passes) (s ∷ script) [] before after a = absurd a
  told_sum n (ps ∷ passes) (s ∷ script) (l ∷ lines) [] after a = absurd a
  told_sum n (ps ∷ passes) (s ∷ script) (l ∷ lines) (b ∷ before) [] a = absurd a
  told_sum n (ps ∷ passes) (s ∷ script) (l ∷ lines) (b ∷ before) (c ∷ after) a =
      times_append n (flat_map (λ ls. flat_map edited ls) l) (all_edited lines)
      ∙ ap (λ t. times n t + times n (all_edited lines)) (sym a.0.own)
      ∙ ap (λ t. times n (places ps h) + t) (told_sum n passes script lines before after a.1)

sum_hits : (k : ℕ) (h : List Entry) (e : Entry) (passes : List (List ℕ)) → slice_get h k ≡ Some e → sum_of (1 + k) passes h ≡ hits e.pass passes
unfolding sum_of hits
sum_hits k h e [] at = refl
sum_hits k h e (ps ∷ passes) at = ap (λ t. t + sum_of (1 + k) passes h) (places_here ps 1 k h e at) ∙ ap (λ t. cond (has e.pass ps) 1 0 + t) (sum_hits k h e passes at)

pub told_once : {P : Type 0} (m : port.Ghosts P) (limit : ℕ) (script : List (List (List Asked))) (h : List Entry) (lines : List (List (List Line))) (before after : List P)
    → IsAccountOf m limit script h lines before after → (k : ℕ) → k < length h → times (k + 1) (all_edited lines) ≡ 1
told_once m limit script h lines before after a k l = with_entry (entry_at h k l)
  where
    entry_at : (h : List Entry) (k : ℕ) → k < length h → (e : Entry) × (slice_get h k ≡ Some e)
    entry_at [] k l = let bad : ⊥ = omega (arith, l) in absurd bad
    entry_at (d ∷ h) zero l = (d, refl)
    entry_at (d ∷ h) (suc k) l = entry_at h k (omega (arith, l))

    with_entry : (e : Entry) × (slice_get h k ≡ Some e) → times (k + 1) (all_edited lines) ≡ 1
    with_entry (e, at) =
        ap (λ n. times n (all_edited lines)) (let s : k + 1 ≡ 1 + k = omega arith in s)
        ∙ told_sum m limit h a.ends (1 + k) a.passes script lines before after a.actors
        ∙ sum_hits k h e a.passes at
        ∙ hits_one e.pass a.passes a.apart
        ∙ ap (λ b. cond b 1 0) (all_by (flat_map (λ ps. ps) a.passes) h k e a.whole at)
