-- Going into each need once gives the same plan.
use Rattle.std.proofs.Common.{◌≡◌, ℕ, zero, suc, ◌+◌, Bool, true, false, ◌||◌, ◌&&◌, cond, nat_eq, ◌⊎◌, inl, inr, true≢false, List, [], ◌∷◌, ◌++◌, append_assoc, append-nil, length, map, Option, None, Some, refl, sym, ap, subst, ◌∙◌, arith}
use Rattle.std.proofs.lemmas.Bool.{eqb-true, eq-eqb}
use Rattle.viz_plan_meaning.specs.Plan.{Upstream, none, empty, fed, served, thin, met, needs, has, add, nub, plan}
use Rattle.viz_plan_meaning.specs.Steps.Visits.{enter, visit, IsOne}
use Rattle.viz_plan_meaning.proofs.PlanLemmas.{or-elim, or-left, or-right, and-elim, and-intro, served-left, served-right, served-append, served-self, served-through, Serves, Serves-dropped, Serves-more}

module _ {R : Type 0} (same : R → R → Bool) (alike : (a b : R) → same a b ≡ true → a ≡ b) (itself : (a : R) → same a a ≡ true) where
  has-left : (xs ys : List (ℕ × R)) (n : ℕ) (w : R) → has same xs n w ≡ true → has same (xs ++ ys) n w ≡ true
  has-left xs ys n w e = served-left same xs ys n w e

  abbrev pub AllIn : List (ℕ × R) → List (ℕ × R) → Type 0
  AllIn s [] = Unit {0}
  AllIn s (x ∷ xs) = (has same s x.0 x.1 ≡ true) × AllIn s xs

  pub AllIn-more : (s t xs : List (ℕ × R)) → ((n : ℕ) (w : R) → has same s n w ≡ true → has same t n w ≡ true) → AllIn s xs → AllIn t xs
  AllIn-more s t [] h a = tt
  AllIn-more s t (x ∷ xs) h a = (h x.0 x.1 a.0, AllIn-more s t xs h a.1)

  AllIn-append : (s xs ys : List (ℕ × R)) → AllIn s xs → AllIn s ys → AllIn s (xs ++ ys)
  AllIn-append s [] ys a b = b
  AllIn-append s (x ∷ xs) ys a b = (a.0, AllIn-append s xs ys a.1 b)

  pub nub-append : (s xs ys : List (ℕ × R)) → nub same s (xs ++ ys) ≡ nub same (nub same s xs) ys
  nub-append s [] ys = refl
  nub-append s (x ∷ xs) ys = nub-append (add same s x.0 x.1) xs ys

  pub nub_in : (s xs : List (ℕ × R)) → AllIn s xs → nub same s xs ≡ s
  nub_in s [] a = refl
  nub_in s (x ∷ xs) a = ap (λ b. nub same (cond b s (s ++ (x.0, x.1) ∷ [])) xs) a.0 ∙ nub_in s xs a.1

  -- what is added is there, and what was there stays
  pub add_more : (s : List (ℕ × R)) (n : ℕ) (w : R) (m : ℕ) (v : R) → has same s m v ≡ true → has same (add same s n w) m v ≡ true
  add_more s n w m v e = by (has same s n w)
    where
      by : (b : Bool) → has same (cond b s (s ++ (n, w) ∷ [])) m v ≡ true
      by true = e
      by false = has-left s ((n, w) ∷ []) m v e

  pub add_has : (s : List (ℕ × R)) (n : ℕ) (w : R) → has same (add same s n w) n w ≡ true
  add_has s n w = by (has same s n w) refl
    where
      by : (b : Bool) → has same s n w ≡ b → has same (cond b s (s ++ (n, w) ∷ [])) n w ≡ true
      by true e = e
      by false e = served-right same s ((n, w) ∷ []) n w (or-left _ false (and-intro _ _ (eq-eqb n n refl) (itself w)))

  pub add_only : (s : List (ℕ × R)) (n : ℕ) (w : R) (m : ℕ) (v : R) → has same (add same s n w) m v ≡ true → (has same s m v ≡ true) ⊎ ((n ≡ m) × (w ≡ v))
  add_only s n w m v = by (has same s n w)
    where
      by : (b : Bool) → has same (cond b s (s ++ (n, w) ∷ [])) m v ≡ true → (has same s m v ≡ true) ⊎ ((n ≡ m) × (w ≡ v))
      by true e = inl e
      by false e = elim (served-append same s ((n, w) ∷ []) m v e) [
        | inl a ↦ inl a
        | inr b ↦ elim (or-elim (nat_eq n m && same w v) false b) [
          | inl c ↦ let p = and-elim _ _ c in inr (eqb-true n m p.0, alike w v p.1)
          | inr d ↦ absurd (true≢false (sym d))
        ]
      ]

  pub nub_more : (s xs : List (ℕ × R)) (m : ℕ) (v : R) → has same s m v ≡ true → has same (nub same s xs) m v ≡ true
  nub_more s [] m v e = e
  nub_more s (x ∷ xs) m v e = nub_more (add same s x.0 x.1) xs m v (add_more s x.0 x.1 m v e)

  pub nub_all : (s xs : List (ℕ × R)) → AllIn (nub same s xs) xs
  nub_all s [] = tt
  nub_all s (x ∷ xs) = (nub_more (add same s x.0 x.1) xs x.0 x.1 (add_has s x.0 x.1), nub_all (add same s x.0 x.1) xs)

  module _ {P : Type 0} (kept : ℕ → R → Option (R × P)) (widen asks : ℕ → R → R) (cone : ℕ → Upstream) where
    -- whatever is in the list, its needs are too
    abbrev pub Closed : List (ℕ × R) → Type 0
    Closed s = (n : ℕ) (w : R) → has same s n w ≡ true → AllIn s (needs kept widen asks (cone n) (asks n w))

    pub visit_nub : (c : Upstream) (r : R) (s : List (ℕ × R)) → IsOne cone c → Closed s
        → (visit same kept widen asks c r s ≡ nub same s (needs kept widen asks c r)) × Closed (visit same kept widen asks c r s)
    visit_nub none r s o h = (refl, h)
    visit_nub (empty c) r s o h = visit_nub c r s o h
    visit_nub (fed n own c) r s o h =
        by (kept n (widen n r)) (has same s n (widen n r)) refl (visit_nub own (asks n (widen n r)) s o.1 h) (λ t k. visit_nub c r t o.2 k)
      where
        by : (e : Option (R × P)) (b : Bool) → has same s n (widen n r) ≡ b
            → (visit same kept widen asks own (asks n (widen n r)) s ≡ nub same s (needs kept widen asks own (asks n (widen n r)))) × Closed (visit same kept widen asks own (asks n (widen n r)) s)
            → ((t : List (ℕ × R)) → Closed t → (visit same kept widen asks c r t ≡ nub same t (needs kept widen asks c r)) × Closed (visit same kept widen asks c r t))
            → (visit same kept widen asks c r (enter same kept widen asks e n (widen n r) (visit same kept widen asks own (asks n (widen n r))) s)
            ≡ nub same s (met kept widen asks e n (widen n r) (needs kept widen asks own) ++ needs kept widen asks c r))
            × Closed (visit same kept widen asks c r (enter same kept widen asks e n (widen n r) (visit same kept widen asks own (asks n (widen n r))) s))
        by (Some e) b q u rest = rest s h
        by None true q u rest =
            let w = widen n r in
            let mine = needs kept widen asks own (asks n w) in
            let a : AllIn s mine = subst (λ d. AllIn s (needs kept widen asks d (asks n w))) (sym o.0) (h n w q) in
            let same_list : enter same kept widen asks None n w (visit same kept widen asks own (asks n w)) s ≡ s = ap (λ b. cond b s (add same (visit same kept widen asks own (asks n w) s) n w)) q in
            let t = rest s h in (
              ap (visit same kept widen asks c r) same_list ∙ t.0
                  ∙ sym (nub-append s (mine ++ (n, w) ∷ []) (needs kept widen asks c r)
                  ∙ ap (λ l. nub same l (needs kept widen asks c r)) (nub_in s (mine ++ (n, w) ∷ []) (AllIn-append s mine ((n, w) ∷ []) a (q, tt)))),
              subst (λ l. Closed (visit same kept widen asks c r l)) (sym same_list) t.1,
            )
        by None false q u rest =
            let w = widen n r in
            let mine = needs kept widen asks own (asks n w) in
            let s1 = visit same kept widen asks own (asks n w) s in
            let s2 = add same s1 n w in
            let step : enter same kept widen asks None n w (visit same kept widen asks own (asks n w)) s ≡ s2 = ap (λ b. cond b s (add same (visit same kept widen asks own (asks n w) s) n w)) q in
            let in1 : AllIn s1 mine = subst (λ l. AllIn l mine) (sym u.0) (nub_all s mine) in
            let grows : (m : ℕ) (v : R) → has same s1 m v ≡ true → has same s2 m v ≡ true = λ m v e. add_more s1 n w m v e in
            let closed : Closed s2 = (λ m v e. elim (add_only s1 n w m v e) [
              | inl a ↦ AllIn-more s1 s2 (needs kept widen asks (cone m) (asks m v)) grows (u.1 m v a)
              | inr p ↦ subst (λ i. AllIn s2 (needs kept widen asks (cone i) (asks i v))) p.0
                  (subst (λ y. AllIn s2 (needs kept widen asks (cone n) (asks n y))) p.1
                  (subst (λ d. AllIn s2 (needs kept widen asks d (asks n w))) o.0 (AllIn-more s1 s2 mine grows in1)))
            ]) in
            let t = rest s2 closed in (
              ap (visit same kept widen asks c r) step ∙ t.0
                  ∙ sym (nub-append s (mine ++ (n, w) ∷ []) (needs kept widen asks c r)
                  ∙ ap (λ l. nub same l (needs kept widen asks c r)) (nub-append s mine ((n, w) ∷ []) ∙ ap (λ l. add same l n w) (sym u.0))),
              subst (λ l. Closed (visit same kept widen asks c r l)) (sym step) t.1,
            )

  module _ (serves : R → R → Bool) (again : (r : R) → serves r r ≡ true) (through : (a b c : R) → serves a b ≡ true → serves b c ≡ true → serves a c ≡ true) where
    abbrev Sub : List (ℕ × R) → List (ℕ × R) → Type 0
    Sub xs ys = (n : ℕ) (w : R) → served serves xs n w ≡ true → served serves ys n w ≡ true

    both_same : (a b : Bool) → (a ≡ true → b ≡ true) → (b ≡ true → a ≡ true) → a ≡ b
    both_same true b f g = sym (f refl)
    both_same false true f g = g refl
    both_same false false f g = refl

    -- thinning asks only what the front serves
    thin_alike : (f g xs : List (ℕ × R)) → Sub f g → Sub g f → thin serves f xs ≡ thin serves g xs
    thin_alike f g [] a b = refl
    thin_alike f g (x ∷ xs) a b =
        let e = both_same (served serves f x.0 x.1) (served serves g x.0 x.1) (a x.0 x.1) (b x.0 x.1) in
        let t = thin_alike (f ++ x ∷ []) (g ++ x ∷ []) xs (Serves-more serves again through f g (x ∷ []) a) (Serves-more serves again through g f (x ∷ []) b) in
        ap (λ c. cond c (thin serves (f ++ x ∷ []) xs) (x ∷ thin serves (f ++ x ∷ []) xs)) e
        ∙ ap (λ l. cond (served serves g x.0 x.1) l (x ∷ l)) t

    has_served : (s : List (ℕ × R)) (n : ℕ) (w : R) → has same s n w ≡ true → served serves s n w ≡ true
    has_served [] n w e = absurd (true≢false (sym e))
    has_served (x ∷ s) n w e = elim (or-elim (nat_eq x.0 n && same x.1 w) (has same s n w) e) [
      | inl a ↦ let p = and-elim _ _ a in or-left _ _ (and-intro _ _ p.0 (subst (λ v. serves x.1 v ≡ true) (alike x.1 w p.1) (again x.1)))
      | inr b ↦ or-right (nat_eq x.0 n && serves x.1 w) (served serves s n w) (has_served s n w b)
    ]

    -- thinning a list and thinning its first occurrences give the same
    thin_nub : (f s xs : List (ℕ × R)) → Sub f s → Sub s f → (t : List (ℕ × R)) × (nub same s xs ≡ s ++ t) × (thin serves f t ≡ thin serves f xs)
    thin_nub f s [] a b = ([], sym (append-nil s), refl)
    thin_nub f s (x ∷ xs) a b =
        by (has same s x.0 x.1) refl
        (λ e. thin_nub (f ++ x ∷ []) s xs (Serves-dropped serves again through f s x a (b x.0 x.1 (has_served s x.0 x.1 e))) (λ n w k. served-left serves f (x ∷ []) n w (b n w k)))
        (thin_nub (f ++ x ∷ []) (s ++ x ∷ []) xs (Serves-more serves again through f s (x ∷ []) a) (Serves-more serves again through s f (x ∷ []) b))
      where
        by : (c : Bool) → has same s x.0 x.1 ≡ c
            → (has same s x.0 x.1 ≡ true → (t : List (ℕ × R)) × (nub same s xs ≡ s ++ t) × (thin serves (f ++ x ∷ []) t ≡ thin serves (f ++ x ∷ []) xs))
            → (t : List (ℕ × R)) × (nub same (s ++ x ∷ []) xs ≡ (s ++ x ∷ []) ++ t) × (thin serves (f ++ x ∷ []) t ≡ thin serves (f ++ x ∷ []) xs)
            → (t : List (ℕ × R)) × (nub same (cond c s (s ++ x ∷ [])) xs ≡ s ++ t) × (thin serves f t ≡ cond (served serves f x.0 x.1) (thin serves (f ++ x ∷ []) xs) (x ∷ thin serves (f ++ x ∷ []) xs))
        by true e old new =
            let r = old e in
            let there : served serves f x.0 x.1 ≡ true = b x.0 x.1 (has_served s x.0 x.1 e) in (
              r.0,
              r.1,
              thin_alike f (f ++ x ∷ []) r.0 (λ n w k. served-left serves f (x ∷ []) n w k) (Serves-dropped serves again through f f x (λ n w k. k) there)
                  ∙ r.2 ∙ sym (ap (λ c. cond c (thin serves (f ++ x ∷ []) xs) (x ∷ thin serves (f ++ x ∷ []) xs)) there),
            )
        by false e old new = (
          x ∷ new.0,
          new.1 ∙ append_assoc s (x ∷ []) new.0,
          ap (λ l. cond (served serves f x.0 x.1) l (x ∷ l)) new.2,
        )

    pub thin_of_nub : (xs : List (ℕ × R)) → thin serves [] (nub same [] xs) ≡ thin serves [] xs
    thin_of_nub xs = let r = thin_nub [] [] xs (λ n w e. e) (λ n w e. e) in ap (thin serves []) r.1 ∙ r.2

    pub plan_of_visit : {P : Type 0} (kept : ℕ → R → Option (R × P)) (widen asks : ℕ → R → R) (cone : ℕ → Upstream) (c : Upstream) (r : R) → IsOne cone c
        → thin serves [] (visit same kept widen asks c r []) ≡ plan serves kept widen asks c (r ∷ [])
    plan_of_visit kept widen asks cone c r o =
        ap (thin serves []) (visit_nub kept widen asks cone c r [] o (λ n w e. absurd (true≢false (sym e)))).0
        ∙ thin_of_nub (needs kept widen asks c r)
        ∙ ap (thin serves []) (sym (append-nil (needs kept widen asks c r)))
