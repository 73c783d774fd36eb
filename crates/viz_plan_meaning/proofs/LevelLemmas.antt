-- Levels of tasks, and the tasks level by level.
use Rattle.std.proofs.Common.{◌≡◌, ℕ, zero, suc, ◌+◌, ◌<◌, ◌≤◌, max, Bool, true, false, ◌||◌, ◌&&◌, cond, filter, nat_eq, ◌⊎◌, inl, inr, true≢false, List, [], ◌∷◌, ◌++◌, append_assoc, append-nil, length, map, Option, None, Some, refl, sym, ap, subst, ◌∙◌, arith}
use Rattle.std.proofs.lemmas.Bool.{eqb-true, eq-eqb}
use Rattle.std.specs.List.Sorted.{IsPermutation}
use Rattle.std.proofs.lemmas.List.Sorted.{IsPermutation-refl, IsPermutation-cons, IsPermutation-trans, IsPermutation-middle, IsPermutation-sym, IsPermutation-append_left}
use Rattle.viz_plan_meaning.specs.Plan.{served}
use Rattle.viz_plan_meaning.specs.Evaluation.{IsMet, AllMet, Ready}
use Rattle.viz_plan_meaning.specs.Levels.{Tasks, needs_of, at_level, by_level, AllUnder, above_first, above_entry, above_inputs, AreLevels, with_levels, IsBelow, AllBelow, IsLevelled}
use Rattle.viz_plan_meaning.proofs.PlanLemmas.{or-elim, or-left, or-right, and-elim, and-intro, served-left, served-right, served-append}

unequal : (a b : ℕ) → nat_eq a b ≡ false → a ≡ b → ⊥
unequal a b q p = true≢false (sym (eq-eqb a b p) ∙ q)

module _ {R : Type 0} where
  needs_of-append : (t u : Tasks R) → needs_of (t ++ u) ≡ needs_of t ++ needs_of u
  needs_of-append [] u = refl
  needs_of-append (x ∷ t) u = ap (λ l. x.0 ∷ l) (needs_of-append t u)

  -- a task whose level isn't below is in none of the levels below
  level_out : (k : ℕ) (x : (ℕ × R) × ℕ) (t : Tasks R) → k ≤ x.1 → by_level k (x ∷ t) ≡ by_level k t
  level_out zero x t l = refl
  level_out (suc k) x t l = by (nat_eq x.1 k) refl (level_out k x t (omega (arith, l)))
    where
      by : (b : Bool) → nat_eq x.1 k ≡ b → by_level k (x ∷ t) ≡ by_level k t → by_level k (x ∷ t) ++ cond b (x ∷ at_level k t) (at_level k t) ≡ by_level k t ++ at_level k t
      by true e h = let p = eqb-true x.1 k e in absurd (omega (arith, l, p))
      by false e h = ap (λ u. u ++ at_level k t) h

  -- one whose level is below is there once
  level_in : (k : ℕ) (x : (ℕ × R) × ℕ) (t : Tasks R) → x.1 < k → IsPermutation (x ∷ by_level k t) (by_level k (x ∷ t))
  level_in zero x t l = absurd (omega (arith, l))
  level_in (suc k) x t l = by (nat_eq x.1 k) refl (level_in k x t)
    where
      by : (b : Bool) → nat_eq x.1 k ≡ b → (x.1 < k → IsPermutation (x ∷ by_level k t) (by_level k (x ∷ t)))
          → IsPermutation (x ∷ (by_level k t ++ at_level k t)) (by_level k (x ∷ t) ++ cond b (x ∷ at_level k t) (at_level k t))
      by true e h =
          let p = eqb-true x.1 k e in
          let q : k ≤ x.1 = omega (arith, p) in
          subst (λ u. IsPermutation (x ∷ (by_level k t ++ at_level k t)) (u ++ x ∷ at_level k t)) (sym (level_out k x t q))
          (IsPermutation-sym _ _ (IsPermutation-middle (by_level k t) x (at_level k t)))
      by false e h =
          let ne = unequal x.1 k e in
          IsPermutation-append_left (at_level k t) (x ∷ by_level k t) (by_level k (x ∷ t)) (h (omega (arith, l, ne)))

  none_by : (k : ℕ) → [] ≡ by_level {R = R} k []
  none_by zero = refl
  none_by (suc k) = none_by k ∙ sym (append-nil (by_level k []))

  -- level by level no task is lost, and none comes twice
  pub levels_lose_none : (k : ℕ) (t : Tasks R) → AllUnder k t → IsPermutation t (by_level k t)
  levels_lose_none k [] u = subst (λ l. IsPermutation [] l) (none_by k) (IsPermutation-refl [])
  levels_lose_none k (x ∷ t) u = IsPermutation-trans _ _ _ (IsPermutation-cons x t (by_level k t) (levels_lose_none k t u.1)) (level_in k x t u.0)

  pub AllUnder-more : (k j : ℕ) (t : Tasks R) → k ≤ j → AllUnder k t → AllUnder j t
  AllUnder-more k j [] l u = tt
  AllUnder-more k j (x ∷ t) l u = (let h = u.0 in omega (arith, l, h), AllUnder-more k j t l u.1)

  pub AllUnder-snoc : (k : ℕ) (x : (ℕ × R) × ℕ) (t : Tasks R) → AllUnder k t → x.1 < k → AllUnder k (t ++ x ∷ [])
  AllUnder-snoc k x [] u l = (l, tt)
  AllUnder-snoc k x (y ∷ t) u l = (u.0, AllUnder-snoc k x t u.1 l)

module _ {R P : Type 0} (serves : R → R → Bool) (kept : ℕ → R → Option (R × P)) (widen asks : ℕ → R → R) (inputs : ℕ → List (Option ℕ)) where
  abbrev first : Tasks R → ℕ → R → ℕ
  first t n w = above_first serves t n w

  abbrev highest : Tasks R → R → List (Option ℕ) → ℕ
  highest t r is = above_inputs serves kept widen t r is

  abbrev entry : Option (R × P) → ℕ → ℕ
  entry o k = above_entry o k

  abbrev levels : Tasks R → List (ℕ × R) → Tasks R
  levels t xs = with_levels serves kept widen asks inputs t xs

  abbrev Below : ℕ → Tasks R → ℕ → R → Type 0
  Below k t n w = IsBelow serves kept widen asks inputs k t n w

  -- the first that serves stays the first
  first_stays : (t u : Tasks R) (n : ℕ) (w : R) → served serves (needs_of t) n w ≡ true → first (t ++ u) n w ≡ first t n w
  first_stays [] u n w s = absurd (true≢false (sym s))
  first_stays (x ∷ t) u n w s = by (nat_eq x.0.0 n && serves x.0.1 w) s (first_stays t u n w)
    where
      by : (b : Bool) → (b || served serves (needs_of t) n w) ≡ true → (served serves (needs_of t) n w ≡ true → first (t ++ u) n w ≡ first t n w)
          → cond b (suc x.1) (first (t ++ u) n w) ≡ cond b (suc x.1) (first t n w)
      by true e h = refl
      by false e h = h e

  first_below : (k : ℕ) (t : Tasks R) (n : ℕ) (w : R) → served serves (needs_of t) n w ≡ true → first t n w ≤ k → Below k t n w
  first_below k [] n w s l = absurd (true≢false (sym s))
  first_below k (x ∷ t) n w s l = by (nat_eq x.0.0 n && serves x.0.1 w) refl s l (first_below k t n w)
    where
      by : (b : Bool) → (nat_eq x.0.0 n && serves x.0.1 w) ≡ b → (b || served serves (needs_of t) n w) ≡ true → cond b (suc x.1) (first t n w) ≤ k
          → (served serves (needs_of t) n w ≡ true → first t n w ≤ k → Below k t n w) → Below k (x ∷ t) n w
      by true e a b h = inl (omega (arith, b), or-left _ false e)
      by false e a b h = inr (h a b)

  first_under : (k : ℕ) (t : Tasks R) (n : ℕ) (w : R) → AllUnder k t → first t n w ≤ k
  first_under k [] n w u = omega arith
  first_under k (x ∷ t) n w u = by (nat_eq x.0.0 n && serves x.0.1 w) (first_under k t n w u.1)
    where
      by : (b : Bool) → first t n w ≤ k → cond b (suc x.1) (first t n w) ≤ k
      by true h = let p = u.0 in omega (arith, p)
      by false h = h

  highest_under : (k : ℕ) (t : Tasks R) (r : R) (is : List (Option ℕ)) → AllUnder k t → highest t r is ≤ k
  highest_under k t r [] u = omega arith
  highest_under k t r (None ∷ is) u = highest_under k t r is u
  highest_under k t r (Some i ∷ is) u = by (kept i (widen i r)) (highest_under k t r is u)
    where
      by : (o : Option (R × P)) → highest t r is ≤ k → max (entry o (first t i (widen i r))) (highest t r is) ≤ k
      by (Some e) h = omega (arith, h)
      by None h = let f = first_under k t i (widen i r) u in omega (arith, h, f)

  -- each level is below the number of tasks
  pub levels_under : (t : Tasks R) (xs : List (ℕ × R)) → AllUnder (length t) t → AllUnder (length t + length xs) (levels t xs)
  levels_under t [] u = tt
  levels_under t (x ∷ xs) u =
      let l = highest t (asks x.0 x.1) (inputs x.0) in
      let y : (ℕ × R) × ℕ = (x, l) in
      let h : l ≤ length t = highest_under (length t) t (asks x.0 x.1) (inputs x.0) u in
      let grown : length (t ++ y ∷ []) ≡ suc (length t) = longer t y in
      let v : AllUnder (suc (length t)) (t ++ y ∷ []) = AllUnder-snoc (suc (length t)) y t (AllUnder-more (length t) (suc (length t)) t (omega arith) u) (omega (arith, h)) in
      let whole : length (t ++ y ∷ []) + length xs ≡ length t + suc (length xs) = omega (arith, grown) in (
        omega (arith, h),
        subst (λ k. AllUnder k (levels (t ++ y ∷ []) xs)) whole (levels_under (t ++ y ∷ []) xs (subst (λ k. AllUnder k (t ++ y ∷ [])) (sym grown) v)),
      )
    where
      longer : (t : Tasks R) (y : (ℕ × R) × ℕ) → length (t ++ y ∷ []) ≡ suc (length t)
      longer [] y = refl
      longer (z ∷ t) y = ap suc (longer t y)

  pub levels_of : (t : Tasks R) (xs : List (ℕ × R)) → needs_of (levels t xs) ≡ xs
  levels_of t [] = refl
  levels_of t (x ∷ xs) = ap (λ l. x ∷ l) (levels_of (t ++ (x, highest t (asks x.0 x.1) (inputs x.0)) ∷ []) xs)

  module _ (Good : ℕ → Type 0) where
    abbrev Met : List (ℕ × R) → R → List (Option ℕ) → Type 0
    Met front r is = AllMet serves kept widen asks inputs Good front r is

    abbrev Fine : List (ℕ × R) → List (ℕ × R) → Type 0
    Fine front xs = Ready serves kept widen asks inputs Good front xs

    highest_stays : (t u : Tasks R) (r : R) (is : List (Option ℕ)) → Met (needs_of t) r is → highest (t ++ u) r is ≡ highest t r is
    highest_stays t u r [] m = refl
    highest_stays t u r (None ∷ is) m = highest_stays t u r is m
    highest_stays t u r (Some i ∷ is) m = by m.0 (highest_stays t u r is m.1)
      where
        by : IsMet serves kept widen asks inputs Good (needs_of t) i r → highest (t ++ u) r is ≡ highest t r is
            → max (entry (kept i (widen i r)) (first (t ++ u) i (widen i r))) (highest (t ++ u) r is) ≡ max (entry (kept i (widen i r)) (first t i (widen i r))) (highest t r is)
        by (inl e) h =
            ap (λ o. max (entry o (first (t ++ u) i (widen i r))) (highest (t ++ u) r is)) e.1
            ∙ ap (λ k. max 0 k) h
            ∙ sym (ap (λ o. max (entry o (first t i (widen i r))) (highest t r is)) e.1)
        by (inr s) h =
            ap (λ k. max (entry (kept i (widen i r)) k) (highest (t ++ u) r is)) (first_stays t u i (widen i r) s)
            ∙ ap (λ k. max (entry (kept i (widen i r)) (first t i (widen i r))) k) h

    -- reckoned from those before it, the level of a task is the one by all tasks
    levels_are : (t : Tasks R) (xs : List (ℕ × R)) → Fine (needs_of t) xs → AreLevels serves kept widen asks inputs (t ++ levels t xs) (levels t xs)
    levels_are t [] m = tt
    levels_are t (x ∷ xs) m =
        let l = highest t (asks x.0 x.1) (inputs x.0) in
        let y : (ℕ × R) × ℕ = (x, l) in
        let rest = levels (t ++ y ∷ []) xs in (
          sym (highest_stays t (y ∷ rest) (asks x.0 x.1) (inputs x.0) m.1),
          subst (λ a. AreLevels serves kept widen asks inputs a rest) (append_assoc t (y ∷ []) rest)
              (levels_are (t ++ y ∷ []) xs (subst (λ f. Fine f xs) (sym (needs_of-append t (y ∷ []))) m.2)),
        )

    -- the tasks that an input uses are of lower levels
    met_below : (k : ℕ) (all : Tasks R) (r : R) (is : List (Option ℕ)) → Met (needs_of all) r is → highest all r is ≤ k → AllBelow serves kept widen asks inputs k all r is
    met_below k all r [] m l = tt
    met_below k all r (None ∷ is) m l = met_below k all r is m l
    met_below k all r (Some i ∷ is) m l = by (kept i (widen i r)) refl m.0 l (met_below k all r is m.1)
      where
        by : (o : Option (R × P)) → kept i (widen i r) ≡ o → IsMet serves kept widen asks inputs Good (needs_of all) i r
            → max (entry o (first all i (widen i r))) (highest all r is) ≤ k
            → (highest all r is ≤ k → AllBelow serves kept widen asks inputs k all r is)
            → (((e : R × P) × (kept i (widen i r) ≡ Some e)) ⊎ Below k all i (widen i r)) × AllBelow serves kept widen asks inputs k all r is
        by (Some e) q a b h = (inl (e, q), h (omega (arith, b)))
        by None q (inl e) b h = (inl e, h (omega (arith, b)))
        by None q (inr s) b h = (inr (first_below k all i (widen i r) s (omega (arith, b))), h (omega (arith, b)))

    Met-left : (front more : List (ℕ × R)) (r : R) (is : List (Option ℕ)) → Met front r is → Met (front ++ more) r is
    Met-left front more r [] m = tt
    Met-left front more r (None ∷ is) m = Met-left front more r is m
    Met-left front more r (Some i ∷ is) m = (elim m.0 [ inl e ↦ inl e | inr s ↦ inr (served-left serves front more i (widen i r) s) ], Met-left front more r is m.1)

    -- what each task asks for is met by the whole
    abbrev AllFine : List (ℕ × R) → List (ℕ × R) → Type 0
    AllFine all [] = Unit {0}
    AllFine all (x ∷ xs) = Good x.0 × Met all (asks x.0 x.1) (inputs x.0) × AllFine all xs

    all_fine : (front xs : List (ℕ × R)) → Fine front xs → AllFine (front ++ xs) xs
    all_fine front [] m = tt
    all_fine front (x ∷ xs) m = (
      m.0,
      Met-left front (x ∷ xs) (asks x.0 x.1) (inputs x.0) m.1,
      subst (λ a. AllFine a xs) (append_assoc front (x ∷ []) xs) (all_fine (front ++ x ∷ []) xs m.2),
    )

    -- where levels are as defined, each task uses tasks of lower levels
    levelled_from : (all t : Tasks R) → AllFine (needs_of all) (needs_of t) → AreLevels serves kept widen asks inputs all t → IsLevelled serves kept widen asks inputs all t
    levelled_from all [] m a = tt
    levelled_from all (x ∷ t) m a =
        let p = a.0 in
        (met_below x.1 all (asks x.0.0 x.0.1) (inputs x.0.0) m.1 (omega (arith, p)), levelled_from all t m.2 a.1)

    -- ---- level by level

    at_serves : (k : ℕ) (x : (ℕ × R) × ℕ) (t : Tasks R) (n : ℕ) (w : R) → x.1 ≡ k → served serves (x.0 ∷ []) n w ≡ true → served serves (needs_of (at_level k (x ∷ t))) n w ≡ true
    at_serves k x t n w e s =
        subst (λ b. served serves (needs_of (cond b (x ∷ at_level k t) (at_level k t))) n w ≡ true) (sym (eq-eqb x.1 k e)) (served-left serves (x.0 ∷ []) (needs_of (at_level k t)) n w s)

    at_more : (k : ℕ) (x : (ℕ × R) × ℕ) (t : Tasks R) (n : ℕ) (w : R) → served serves (needs_of (at_level k t)) n w ≡ true → served serves (needs_of (at_level k (x ∷ t))) n w ≡ true
    at_more k x t n w s = by (nat_eq x.1 k)
      where
        by : (b : Bool) → served serves (needs_of (cond b (x ∷ at_level k t) (at_level k t))) n w ≡ true
        by true = served-right serves (x.0 ∷ []) (needs_of (at_level k t)) n w s
        by false = s

    below_at : (k : ℕ) (t : Tasks R) (n : ℕ) (w : R) → Below k t n w → (j : ℕ) × (j < k) × (served serves (needs_of (at_level j t)) n w ≡ true)
    below_at k [] n w b = absurd b
    below_at k (x ∷ t) n w (inl h) = (x.1, h.0, at_serves x.1 x t n w refl h.1)
    below_at k (x ∷ t) n w (inr h) = let r = below_at k t n w h in (r.0, r.1, at_more r.0 x t n w r.2)

    one_level : (j k : ℕ) (t : Tasks R) (n : ℕ) (w : R) → j < k → served serves (needs_of (at_level j t)) n w ≡ true → served serves (needs_of (by_level k t)) n w ≡ true
    one_level j zero t n w l s = absurd (omega (arith, l))
    one_level j (suc k) t n w l s = subst (λ f. served serves f n w ≡ true) (sym (needs_of-append (by_level k t) (at_level k t))) (by (nat_eq j k) refl (λ m. one_level j k t n w m s))
      where
        by : (b : Bool) → nat_eq j k ≡ b → (j < k → served serves (needs_of (by_level k t)) n w ≡ true) → served serves (needs_of (by_level k t) ++ needs_of (at_level k t)) n w ≡ true
        by true e rest = served-right serves (needs_of (by_level k t)) (needs_of (at_level k t)) n w (subst (λ i. served serves (needs_of (at_level i t)) n w ≡ true) (eqb-true j k e) s)
        by false e rest = let ne = unequal j k e in served-left serves (needs_of (by_level k t)) (needs_of (at_level k t)) n w (rest (omega (arith, l, ne)))

    pub below_serves : (k : ℕ) (t : Tasks R) (n : ℕ) (w : R) → Below k t n w → served serves (needs_of (by_level k t)) n w ≡ true
    below_serves k t n w b = let r = below_at k t n w b in one_level r.0 k t n w r.1 r.2

    abbrev AllGood : Tasks R → Type 0
    AllGood [] = Unit {0}
    AllGood (x ∷ t) = Good x.0.0 × AllGood t

    all_good : (front : List (ℕ × R)) (t : Tasks R) → Fine front (needs_of t) → AllGood t
    all_good front [] m = tt
    all_good front (x ∷ t) m = (m.0, all_good (front ++ x.0 ∷ []) t m.2)

    below_met : (k : ℕ) (all : Tasks R) (r : R) (is : List (Option ℕ)) → AllBelow serves kept widen asks inputs k all r is → Met (needs_of (by_level k all)) r is
    below_met k all r [] b = tt
    below_met k all r (None ∷ is) b = below_met k all r is b
    below_met k all r (Some i ∷ is) b = (elim b.0 [ inl e ↦ inl e | inr h ↦ inr (below_serves k all i (widen i r) h) ], below_met k all r is b.1)

    -- all tasks of a level find what they ask for among the levels below
    pub level_fine : (k : ℕ) (all t : Tasks R) → AllGood t → IsLevelled serves kept widen asks inputs all t → AllFine (needs_of (by_level k all)) (needs_of (at_level k t))
    level_fine k all [] g h = tt
    level_fine k all (x ∷ t) g h = by (nat_eq x.1 k) refl (level_fine k all t g.1 h.1)
      where
        by : (b : Bool) → nat_eq x.1 k ≡ b → AllFine (needs_of (by_level k all)) (needs_of (at_level k t)) → AllFine (needs_of (by_level k all)) (needs_of (cond b (x ∷ at_level k t) (at_level k t)))
        by false e a = a
        by true e a = (
          g.0,
          subst (λ i. Met (needs_of (by_level i all)) (asks x.0.0 x.0.1) (inputs x.0.0)) (eqb-true x.1 k e) (below_met x.1 all (asks x.0.0 x.0.1) (inputs x.0.0) h.0),
          a,
        )

    fine_from : (front more xs : List (ℕ × R)) → AllFine front xs → Fine (front ++ more) xs
    fine_from front more [] a = tt
    fine_from front more (x ∷ xs) a = (
      a.0,
      Met-left front more (asks x.0 x.1) (inputs x.0) a.1,
      subst (λ f. Fine f xs) (sym (append_assoc front more (x ∷ []))) (fine_from front (more ++ x ∷ []) xs a.2),
    )

    fine-append : (front xs ys : List (ℕ × R)) → Fine front xs → Fine (front ++ xs) ys → Fine front (xs ++ ys)
    fine-append front [] ys a b = subst (λ f. Fine f ys) (append-nil front) b
    fine-append front (x ∷ xs) ys a b = (a.0, a.1, fine-append (front ++ x ∷ []) xs ys a.2 (subst (λ f. Fine f ys) (sym (append_assoc front (x ∷ []) xs)) b))

    -- level by level, each task finds what it asks for
    levels_fine : (k : ℕ) (all : Tasks R) → AllGood all → IsLevelled serves kept widen asks inputs all all → Fine [] (needs_of (by_level k all))
    levels_fine zero all g h = tt
    levels_fine (suc k) all g h =
        let below = needs_of (by_level k all) in
        subst (λ f. Fine [] f) (sym (needs_of-append (by_level k all) (at_level k all)))
        (fine-append [] below (needs_of (at_level k all)) (levels_fine k all g h)
        (subst (λ f. Fine f (needs_of (at_level k all))) (append-nil below) (fine_from below [] (needs_of (at_level k all)) (level_fine k all all g h))))

    -- ---- in one

    -- tasks that each find what they ask for before themselves have levels as defined, each uses tasks of lower levels, level by level none is lost, and each finds what it asks for
    pub levels_stand : (xs : List (ℕ × R)) → Fine [] xs
        → (needs_of (levels [] xs) ≡ xs) × AreLevels serves kept widen asks inputs (levels [] xs) (levels [] xs)
        × IsLevelled serves kept widen asks inputs (levels [] xs) (levels [] xs)
        × IsPermutation (levels [] xs) (by_level (length xs) (levels [] xs)) × Fine [] (needs_of (by_level (length xs) (levels [] xs)))
    levels_stand xs m =
        let t = levels [] xs in
        let e = levels_of [] xs in
        let again : Fine [] (needs_of t) = subst (λ l. Fine [] l) (sym e) m in
        let a = levels_are [] xs m in
        let h = levelled_from t t (all_fine [] (needs_of t) again) a in
        let plain : 0 + length xs ≡ length xs = omega arith in
        (e, a, h, levels_lose_none (length xs) t (subst (λ k. AllUnder k t) plain (levels_under [] xs tt)), levels_fine (length xs) t (all_good [] t again) h)

    heads : (x y : ℕ × R) (xs ys : List (ℕ × R)) → x ∷ xs ≡ y ∷ ys → (x ≡ y) × (xs ≡ ys)
    heads x y xs ys e =
        let head : List (ℕ × R) → ℕ × R = λ l. elim l [ [] ↦ x | z ∷ zs ↦ z ] in
        let tail : List (ℕ × R) → List (ℕ × R) = λ l. elim l [ [] ↦ [] | z ∷ zs ↦ zs ] in
        (ap head e, ap tail e)

    -- levels as defined are those that are reckoned
    levels_one : (front t : Tasks R) (xs : List (ℕ × R)) → Fine (needs_of front) xs → needs_of t ≡ xs → AreLevels serves kept widen asks inputs (front ++ t) t → t ≡ levels front xs
    levels_one front [] [] m e a = refl
    levels_one front [] (x ∷ xs) m e a = let bad : ⊥ = cc in absurd bad
    levels_one front (y ∷ t) [] m e a = let bad : ⊥ = cc in absurd bad
    levels_one front (y ∷ t) (x ∷ xs) m e a =
        let p = heads y.0 x (needs_of t) xs e in
        let l = highest front (asks x.0 x.1) (inputs x.0) in
        let same : y.1 ≡ l =
        a.0 ∙ ap (λ z. highest (front ++ y ∷ t) (asks z.0 z.1) (inputs z.0)) p.0 ∙ highest_stays front (y ∷ t) (asks x.0 x.1) (inputs x.0) m.1 in
        let whole : y ≡ (x, l) = ap (λ z. (z, y.1)) p.0 ∙ ap (λ k. (x, k)) same in
        let ready : Fine (needs_of (front ++ y ∷ [])) xs =
        subst (λ f. Fine f xs) (sym (needs_of-append front (y ∷ []))) (subst (λ z. Fine (needs_of front ++ z ∷ []) xs) (sym p.0) m.2) in
        let rest : t ≡ levels (front ++ y ∷ []) xs = levels_one (front ++ y ∷ []) t xs ready p.1 (subst (λ f. AreLevels serves kept widen asks inputs f t) (sym (append_assoc front (y ∷ []) t)) a.1) in
        ap (λ u. y ∷ u) rest ∙ ap (λ z. z ∷ levels (front ++ z ∷ []) xs) whole

    -- so there is one table of levels
    pub levels_are_one : (t : Tasks R) → Fine [] (needs_of t) → AreLevels serves kept widen asks inputs t t → t ≡ levels [] (needs_of t)
    levels_are_one t m a = levels_one [] t (needs_of t) m refl a
