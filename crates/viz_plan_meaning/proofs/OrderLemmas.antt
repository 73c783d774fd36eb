-- The plan's tasks, evaluated level by level.
use Rattle.std.proofs.Common.{◌≡◌, ℕ, zero, suc, ◌+◌, ◌<◌, ◌≤◌, Bool, true, false, ◌||◌, ◌&&◌, nat_eq, ◌⊎◌, inl, inr, true≢false, List, [], ◌∷◌, ◌++◌, length, map, Option, None, Some, Result, Ok, Err, refl, sym, ap, subst, ◌∙◌, arith}
use Rattle.std.specs.List.Sorted.{IsPermutation}
use Rattle.viz_plan_meaning.specs.Plan.{Upstream, served, plan, heads, AllOf}
use Rattle.viz_plan_meaning.specs.Evaluation.{evaluated, Ready}
use Rattle.viz_plan_meaning.specs.Steps.Visits.{IsOne}
use Rattle.viz_plan_meaning.specs.Levels.{Tasks, needs_of, by_level, AllUnder, AreLevels, with_levels, IsBelow, IsLevelled}
use Rattle.viz_plan_meaning.proofs.PlanLemmas.{or-elim, or-left, plan_ready, AllAsked, AllAsked-more, IsFed, Gives, AllTrue, Comes, evaluated_comes, Produces, all_fed}
use Rattle.viz_plan_meaning.proofs.LevelLemmas.{levels_stand, levels_under, below_serves}
use Rattle.viz_plan_meaning.proofs.UsedLemmas.{fits_one}

module _ {R P : Type 0} (serves : R → R → Bool) (again : (r : R) → serves r r ≡ true) (through : (a b c : R) → serves a b ≡ true → serves b c ≡ true → serves a c ≡ true)
    (kept : ℕ → R → Option (R × P)) (widen asks : ℕ → R → R) (cone : ℕ → Upstream) (Good : ℕ → Type 0) where
  -- what feeds the ports of a node
  abbrev pub fed_by : ℕ → List (Option ℕ)
  fed_by n = heads (cone n)

  -- the plan's tasks with their levels
  abbrev pub levelled : Upstream → List R → Tasks R
  levelled c rs = with_levels serves kept widen asks fed_by [] (plan serves kept widen asks c rs)

  -- the plan in the order of its levels
  abbrev pub in_order : Upstream → List R → List (ℕ × R)
  in_order c rs = needs_of (by_level (length (plan serves kept widen asks c rs)) (levelled c rs))

  served_below : (k : ℕ) (t : Tasks R) (n : ℕ) (w : R) → AllUnder k t → served serves (needs_of t) n w ≡ true → IsBelow serves kept widen asks fed_by k t n w
  served_below k [] n w u s = absurd (true≢false (sym s))
  served_below k (x ∷ t) n w u s = elim (or-elim (nat_eq x.0.0 n && serves x.0.1 w) (served serves (needs_of t) n w) s) [
    | inl a ↦ inl (u.0, or-left _ false a)
    | inr b ↦ inr (served_below k t n w u.1 b)
  ]

  -- the plan with its levels: they are as defined, none is lost level by level, and in that order each task finds what it asks for, and the requests are met
  pub plan_levels : (c : Upstream) (rs : List R) → IsOne cone c → AllOf Good c
      → (needs_of (levelled c rs) ≡ plan serves kept widen asks c rs) × AreLevels serves kept widen asks fed_by (levelled c rs) (levelled c rs)
      × IsLevelled serves kept widen asks fed_by (levelled c rs) (levelled c rs)
      × IsPermutation (levelled c rs) (by_level (length (plan serves kept widen asks c rs)) (levelled c rs))
      × Ready serves kept widen asks fed_by Good [] (in_order c rs)
      × AllAsked serves again through kept widen asks fed_by Good (in_order c rs) rs (heads c)
  plan_levels c rs o g =
      let xs = plan serves kept widen asks c rs in
      let r = plan_ready serves again through kept widen asks fed_by Good (heads c) c rs (fits_one serves kept widen asks cone Good c o g) in
      let s = levels_stand serves kept widen asks fed_by Good xs r.0 in
      let plain : 0 + length xs ≡ length xs = omega arith in
      let under : AllUnder (length xs) (levelled c rs) = subst (λ k. AllUnder k (levelled c rs)) plain (levels_under serves kept widen asks fed_by [] xs tt) in
      let more : (n : ℕ) (w : R) → served serves xs n w ≡ true → served serves (in_order c rs) n w ≡ true =
      (λ n w e. below_serves serves kept widen asks fed_by Good (length xs) (levelled c rs) n w
      (served_below (length xs) (levelled c rs) n w under (subst (λ l. served serves l n w ≡ true) (sym s.0) e))) in
      (s.0, s.1, s.2, s.3, s.4, AllAsked-more serves again through kept widen asks fed_by Good xs (in_order c rs) more rs (heads c) r.1)

  module _ {F : Type 0} (restrict : R × P → R → P) (run : ℕ → R → List (Option P) → Result P F) (IsTrue : ℕ → R → P → Type 0) (Faults : ℕ → F → Type 0)
      (restricts : (n : ℕ) (k r : R) (p : P) → IsTrue n k p → serves k (widen n r) ≡ true → IsTrue n r (restrict (k, p) r))
      (kept_true : (n : ℕ) (w : R) (e : R × P) → kept n w ≡ Some e → IsTrue n e.0 e.1 × (serves e.0 w ≡ true))
      (law : (n : ℕ) (w : R) (ps : List (Option P)) → Good n
      → IsFed serves again through kept widen asks fed_by Good restrict run IsTrue Faults restricts kept_true (asks n w) (fed_by n) ps
      → Gives serves again through kept widen asks fed_by Good restrict run IsTrue Faults restricts kept_true n w (run n w ps)) where
    -- evaluated level by level, the plan gives true parts for all requests, or a fault of a node
    pub levels_produce : (c : Upstream) (rs : List R) → IsOne cone c → AllOf Good c
        → Produces serves again through kept widen asks fed_by Good restrict run IsTrue Faults restricts kept_true law (in_order c rs) rs (heads c)
        (evaluated serves kept widen asks fed_by restrict run [] (in_order c rs))
    levels_produce c rs o g =
        let p = plan_levels c rs o g in
        by (evaluated serves kept widen asks fed_by restrict run [] (in_order c rs))
        (evaluated_comes serves again through kept widen asks fed_by Good restrict run IsTrue Faults restricts kept_true law [] (in_order c rs) tt p.4) p.5
      where
        by : (s : Result (List ((ℕ × R) × P)) F)
            → Comes serves again through kept widen asks fed_by Good restrict run IsTrue Faults restricts kept_true [] (in_order c rs) s
            → AllAsked serves again through kept widen asks fed_by Good (in_order c rs) rs (heads c)
            → Produces serves again through kept widen asks fed_by Good restrict run IsTrue Faults restricts kept_true law (in_order c rs) rs (heads c) s
        by (Ok u) h m = (
          h.1,
          h.0,
          all_fed serves again through kept widen asks fed_by Good restrict run IsTrue Faults restricts kept_true law u rs (heads c) h.0
              (subst (λ l. AllAsked serves again through kept widen asks fed_by Good l rs (heads c)) (sym h.1) m),
        )
        by (Err e) h m = h
