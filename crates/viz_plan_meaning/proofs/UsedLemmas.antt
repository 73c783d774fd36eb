-- The entries that are used, by going into each need once only; several requests.
use Rattle.std.proofs.Common.{◌≡◌, ℕ, zero, suc, ◌+◌, Bool, true, false, ◌||◌, ◌&&◌, cond, nat_eq, ◌⊎◌, inl, inr, true≢false, List, [], ◌∷◌, ◌++◌, append_assoc, append-nil, length, map, Option, None, Some, refl, sym, ap, subst, ◌∙◌, arith}
use Rattle.viz_plan_meaning.specs.Plan.{Upstream, none, empty, fed, served, thin, met, needs, all_needs, has, add, nub, plan, met_entry, entries, all_entries, used, heads, AllOf}
use Rattle.viz_plan_meaning.specs.Steps.Visits.{enter, visit, visit_all, visit_all_used, IsOne, enter_used, visit_used}
use Rattle.viz_plan_meaning.specs.Steps.Ready.{Fits}
use Rattle.viz_plan_meaning.proofs.VisitLemmas.{AllIn, AllIn-more, nub-append, nub_in, nub_all, nub_more, add_more, add_has, add_only, Closed, visit_nub, thin_of_nub}

-- where each node has one cone, the cone is that of its heads
pub fits_one : {R P : Type 0} (serves : R → R → Bool) (kept : ℕ → R → Option (R × P)) (widen asks : ℕ → R → R) (cone : ℕ → Upstream) (Good : ℕ → Type 0) (c : Upstream)
    → IsOne cone c → AllOf Good c → Fits (λ n. heads (cone n)) Good (heads c) c
fits_one serves kept widen asks cone Good none o g = tt
fits_one serves kept widen asks cone Good (empty c) o g = fits_one serves kept widen asks cone Good c o g
fits_one serves kept widen asks cone Good (fed n own c) o g = (
  refl,
  g.0,
  subst (λ d. Fits (λ m. heads (cone m)) Good (heads d) own) o.0 (fits_one serves kept widen asks cone Good own o.1 g.1),
  fits_one serves kept widen asks cone Good c o.2 g.2,
)

module _ {R : Type 0} (same : R → R → Bool) (alike : (a b : R) → same a b ≡ true → a ≡ b) (itself : (a : R) → same a a ≡ true) where
  module _ {P : Type 0} (kept : ℕ → R → Option (R × P)) (widen asks : ℕ → R → R) (cone : ℕ → Upstream) where
    abbrev All : List (ℕ × R) → List (ℕ × R) → Type 0
    All s xs = AllIn same alike itself s xs

    -- what the needs in the list use is known
    abbrev Known : List (ℕ × R) → List (ℕ × R) → Type 0
    Known s u = (n : ℕ) (w : R) → has same s n w ≡ true → All u (entries same kept widen asks (cone n) (asks n w))

    grown : (u xs : List (ℕ × R)) (ys : List (ℕ × R)) → All u xs → All (nub same u ys) xs
    grown u xs ys a = AllIn-more same alike itself u (nub same u ys) xs (λ m v e. nub_more same alike itself u ys m v e) a

    pub used_nub : (c : Upstream) (r : R) (s u : List (ℕ × R)) → IsOne cone c → Known s u
        → (visit_used same kept widen asks c r s u ≡ nub same u (entries same kept widen asks c r)) × Known (visit same kept widen asks c r s) (visit_used same kept widen asks c r s u)
    used_nub none r s u o h = (refl, h)
    used_nub (empty c) r s u o h = used_nub c r s u o h
    used_nub (fed n own c) r s u o h =
        by (kept n (widen n r)) (has same s n (widen n r)) refl (used_nub own (asks n (widen n r)) s u o.1 h) (λ t v k. used_nub c r t v o.2 k)
      where
        w : R
        w = widen n r

        up : List (ℕ × R) → List (ℕ × R)
        up t = visit same kept widen asks own (asks n (widen n r)) t

        mine : List (ℕ × R)
        mine = entries same kept widen asks own (asks n (widen n r))

        by : (e : Option (R × P)) (b : Bool) → has same s n (widen n r) ≡ b
            → (visit_used same kept widen asks own (asks n (widen n r)) s u ≡ nub same u (entries same kept widen asks own (asks n (widen n r))))
            × Known (visit same kept widen asks own (asks n (widen n r)) s) (visit_used same kept widen asks own (asks n (widen n r)) s u)
            → ((t v : List (ℕ × R)) → Known t v → (visit_used same kept widen asks c r t v ≡ nub same v (entries same kept widen asks c r)) × Known (visit same kept widen asks c r t) (visit_used same kept widen asks c r t v))
            → (visit_used same kept widen asks c r (enter same kept widen asks e n (widen n r) (visit same kept widen asks own (asks n (widen n r))) s)
            (enter_used same kept widen asks e n (widen n r) (visit_used same kept widen asks own (asks n (widen n r)) s u) s u)
            ≡ nub same u (met_entry same kept widen asks e n (entries same kept widen asks own (asks n (widen n r))) ++ entries same kept widen asks c r))
            × Known (visit same kept widen asks c r (enter same kept widen asks e n (widen n r) (visit same kept widen asks own (asks n (widen n r))) s))
            (visit_used same kept widen asks c r (enter same kept widen asks e n (widen n r) (visit same kept widen asks own (asks n (widen n r))) s)
            (enter_used same kept widen asks e n (widen n r) (visit_used same kept widen asks own (asks n (widen n r)) s u) s u))
        by (Some e) b q below rest = rest s (add same u n e.0) (λ m v k. grown u (entries same kept widen asks (cone m) (asks m v)) ((n, e.0) ∷ []) (h m v k))
        by None true q below rest =
            let a : All u (entries same kept widen asks own (asks n (widen n r))) = subst (λ d. All u (entries same kept widen asks d (asks n (widen n r)))) (sym o.0) (h n (widen n r) q) in
            let s_is : enter same kept widen asks None n (widen n r) (visit same kept widen asks own (asks n (widen n r))) s ≡ s =
            ap (λ b. cond b s (add same (visit same kept widen asks own (asks n (widen n r)) s) n (widen n r))) q in
            let u_is : enter_used same kept widen asks None n (widen n r) (visit_used same kept widen asks own (asks n (widen n r)) s u) s u ≡ u =
            ap (λ b. cond b u (visit_used same kept widen asks own (asks n (widen n r)) s u)) q in
            let t = rest s u h in
            let e1 = ap (λ l. visit_used same kept widen asks c r l (enter_used same kept widen asks None n (widen n r) (visit_used same kept widen asks own (asks n (widen n r)) s u) s u)) s_is
            ∙ ap (λ l. visit_used same kept widen asks c r s l) u_is in (
              e1 ∙ t.0
                  ∙ sym (nub-append same alike itself u (entries same kept widen asks own (asks n (widen n r))) (entries same kept widen asks c r)
                  ∙ ap (λ l. nub same l (entries same kept widen asks c r)) (nub_in same alike itself u (entries same kept widen asks own (asks n (widen n r))) a)),
              subst (λ l. Known (visit same kept widen asks c r (enter same kept widen asks None n (widen n r) (visit same kept widen asks own (asks n (widen n r))) s)) l) (sym e1)
                  (subst (λ l. Known (visit same kept widen asks c r l) (visit_used same kept widen asks c r s u)) (sym s_is) t.1),
            )
        by None false q below rest =
            let s1 = visit same kept widen asks own (asks n (widen n r)) s in
            let u1 = visit_used same kept widen asks own (asks n (widen n r)) s u in
            let s2 = add same s1 n (widen n r) in
            let s_is : enter same kept widen asks None n (widen n r) (visit same kept widen asks own (asks n (widen n r))) s ≡ s2 =
            ap (λ b. cond b s (add same (visit same kept widen asks own (asks n (widen n r)) s) n (widen n r))) q in
            let u_is : enter_used same kept widen asks None n (widen n r) (visit_used same kept widen asks own (asks n (widen n r)) s u) s u ≡ u1 =
            ap (λ b. cond b u (visit_used same kept widen asks own (asks n (widen n r)) s u)) q in
            let in1 : All u1 (entries same kept widen asks own (asks n (widen n r))) =
            subst (λ l. All l (entries same kept widen asks own (asks n (widen n r)))) (sym below.0) (nub_all same alike itself u (entries same kept widen asks own (asks n (widen n r)))) in
            let known : Known s2 u1 = (λ m v e. elim (add_only same alike itself s1 n (widen n r) m v e) [
              | inl a ↦ below.1 m v a
              | inr p ↦ subst (λ i. All u1 (entries same kept widen asks (cone i) (asks i v))) p.0
                  (subst (λ y. All u1 (entries same kept widen asks (cone n) (asks n y))) p.1
                  (subst (λ d. All u1 (entries same kept widen asks d (asks n (widen n r)))) o.0 in1))
            ]) in
            let t = rest s2 u1 known in
            let e1 = ap (λ l. visit_used same kept widen asks c r l (enter_used same kept widen asks None n (widen n r) (visit_used same kept widen asks own (asks n (widen n r)) s u) s u)) s_is
            ∙ ap (λ l. visit_used same kept widen asks c r s2 l) u_is in (
              e1 ∙ t.0
                  ∙ sym (nub-append same alike itself u (entries same kept widen asks own (asks n (widen n r))) (entries same kept widen asks c r)
                  ∙ ap (λ l. nub same l (entries same kept widen asks c r)) (sym below.0)),
              subst (λ l. Known (visit same kept widen asks c r (enter same kept widen asks None n (widen n r) (visit same kept widen asks own (asks n (widen n r))) s)) l) (sym e1)
                  (subst (λ l. Known (visit same kept widen asks c r l) (visit_used same kept widen asks c r s2 u1)) (sym s_is) t.1),
            )

    -- several requests
    abbrev Shut : List (ℕ × R) → Type 0
    Shut s = Closed same alike itself kept widen asks cone s

    all_nub : (c : Upstream) (rs : List R) (s : List (ℕ × R)) → IsOne cone c → Shut s → visit_all same kept widen asks c rs s ≡ nub same s (all_needs kept widen asks c rs)
    all_nub c [] s o h = refl
    all_nub c (r ∷ rs) s o h =
        let v = visit_nub same alike itself kept widen asks cone c r s o h in
        all_nub c rs (visit same kept widen asks c r s) o v.1
        ∙ ap (λ l. nub same l (all_needs kept widen asks c rs)) v.0
        ∙ sym (nub-append same alike itself s (needs kept widen asks c r) (all_needs kept widen asks c rs))

    all_used_nub : (c : Upstream) (rs : List R) (s u : List (ℕ × R)) → IsOne cone c → Known s u → visit_all_used same kept widen asks c rs s u ≡ nub same u (all_entries same kept widen asks c rs)
    all_used_nub c [] s u o h = refl
    all_used_nub c (r ∷ rs) s u o h =
        let v = used_nub c r s u o h in
        all_used_nub c rs (visit same kept widen asks c r s) (visit_used same kept widen asks c r s u) o v.1
        ∙ ap (λ l. nub same l (all_entries same kept widen asks c rs)) v.0
        ∙ sym (nub-append same alike itself u (entries same kept widen asks c r) (all_entries same kept widen asks c rs))

    pub all_of_used : (c : Upstream) (rs : List R) → IsOne cone c → visit_all_used same kept widen asks c rs [] [] ≡ used same kept widen asks c rs
    all_of_used c rs o = all_used_nub c rs [] [] o (λ n w e. absurd (true≢false (sym e)))

    pub plan_of_all : (serves : R → R → Bool) (again : (r : R) → serves r r ≡ true) (through : (a b c : R) → serves a b ≡ true → serves b c ≡ true → serves a c ≡ true)
        (c : Upstream) (rs : List R) → IsOne cone c → thin serves [] (visit_all same kept widen asks c rs []) ≡ plan serves kept widen asks c rs
    plan_of_all serves again through c rs o =
        ap (thin serves []) (all_nub c rs [] o (λ n w e. absurd (true≢false (sym e))))
        ∙ thin_of_nub same alike itself serves again through (all_needs kept widen asks c rs)
