-- Needs and used entries by going into each need once. Only private contracts and proofs speak of
-- it.
use Rattle.std.specs.Prelude.{◌≡◌, ℕ, Bool, true, cond, List, [], ◌∷◌, ◌++◌, Option, None, Some}
use Rattle.viz_plan_meaning.specs.Plan.{Upstream, none, empty, fed, has, add}

module _ {R : Type 0} (same : R → R → Bool) {P : Type 0} (kept : ℕ → R → Option (R × P))
    (widen asks : ℕ → R → R) where
  abbrev pub enter : Option (R × P) → ℕ → R → (List (ℕ × R) → List (ℕ × R)) → List (ℕ × R)
      → List (ℕ × R)
  enter (Some e) n w up s = s
  enter None n w up s = cond (has same s n w) s (add same (up s) n w)

  -- the needs: goes into a need once only
  abbrev pub visit : Upstream → R → List (ℕ × R) → List (ℕ × R)
  visit none r s = s
  visit (empty others) r s = visit others r s
  visit (fed n own others) r s =
      visit others r (enter (kept n (widen n r)) n (widen n r) (visit own (asks n (widen n r))) s)

  abbrev pub enter_used : Option (R × P) → ℕ → R → List (ℕ × R) → List (ℕ × R) → List (ℕ × R)
      → List (ℕ × R)
  enter_used (Some e) n w up s u = add same u n e.0
  enter_used None n w up s u = cond (has same s n w) u up

  -- the entries: s has the needs, u the entries so far
  abbrev pub visit_used : Upstream → R → List (ℕ × R) → List (ℕ × R) → List (ℕ × R)
  visit_used none r s u = u
  visit_used (empty others) r s u = visit_used others r s u
  visit_used (fed n own others) r s u =
      visit_used others r
      (enter (kept n (widen n r)) n (widen n r) (visit own (asks n (widen n r))) s)
      (enter_used (kept n (widen n r)) n (widen n r) (visit_used own (asks n (widen n r)) s u) s u)

  -- several requests, one after the other
  abbrev pub visit_all : Upstream → List R → List (ℕ × R) → List (ℕ × R)
  visit_all c [] s = s
  visit_all c (r ∷ rs) s = visit_all c rs (visit c r s)

  abbrev pub visit_all_used : Upstream → List R → List (ℕ × R) → List (ℕ × R) → List (ℕ × R)
  visit_all_used c [] s u = u
  visit_all_used c (r ∷ rs) s u = visit_all_used c rs (visit c r s) (visit_used c r s u)

-- each node has one cone
abbrev pub IsOne : (ℕ → Upstream) → Upstream → Type 0
IsOne cone none = Unit {0}
IsOne cone (empty c) = IsOne cone c
IsOne cone (fed n own c) = (own ≡ cone n) × IsOne cone own × IsOne cone c
