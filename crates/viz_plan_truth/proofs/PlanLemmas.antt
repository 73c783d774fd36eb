-- Each need of a plan is met by a task that came out.
use Rattle.std.proofs.Common.{◌≡◌, ℕ, Bool, true, false, cond, nat_eq, ◌&&◌, List, [], ◌∷◌, ◌++◌, Option, refl, subst, ⊎_elim}
use Rattle.std.specs.List.{All}
use Rattle.std.proofs.lemmas.Bool.{eqb-true}
use Rattle.std.proofs.lemmas.List.Elements.{All-head, All-tail}
use Rattle.viz_network.specs.Network.{Network}
use Rattle.viz_parts.specs.declared.request.Request.{Request}
use Rattle.viz_plan_meaning.specs.Plan.{Upstream, all_needs, needs, served, thin}
use Rattle.viz_plan_meaning.proofs.PlanLemmas.{and-elim, or-elim}
use Rattle.viz_requests.specs.Serving.{ServesItself, ServesOn, serves}
use Rattle.viz_plan_truth.specs.Truth.{HasTaskPart}
use Rattle.viz_plan_truth.proofs.FamilyLemmas.{Shown}
use Rattle.viz_plan_truth.proofs.StemLemmas.{itself_stems}

abbrev pub Need : Type 0
Need = ℕ × Request

-- each has the property
abbrev pub Each : (Need → Type 0) → List Need → Type 0
Each P [] = Unit {0}
Each P (x ∷ xs) = P x × Each P xs

pub each_front : (P : Need → Type 0) (xs ys : List Need) → Each P (xs ++ ys) → Each P xs
each_front P [] ys h = tt
each_front P (x ∷ xs) ys h = (h.0, each_front P xs ys h.1)

pub each_back : (P : Need → Type 0) (xs ys : List Need) → Each P (xs ++ ys) → Each P ys
each_back P [] ys h = h
each_back P (x ∷ xs) ys h = each_back P xs ys h.1

pub each_both : (P : Need → Type 0) (xs ys : List Need) → Each P xs → Each P ys → Each P (xs ++ ys)
each_both P [] ys h j = j
each_both P (x ∷ xs) ys h j = (h.0, each_both P xs ys h.1 j)

-- ---- tasks that serve

-- a request that serves this one has the property at the node
abbrev pub IsMet : (Need → Type 0) → Need → Type 0
IsMet Q x = (v : Request) × (serves v x.1 ≡ true) × Q (x.0, v)

module _ (itself : ServesItself) (on : ServesOn) (Q : Need → Type 0) where
  served_met : (front : List Need) (n : ℕ) (w : Request) → Each (IsMet Q) front
      → served serves front n w ≡ true → IsMet Q (n, w)
  served_met [] n w h e = let bad : ⊥ = cc in absurd bad
  served_met (x ∷ xs) n w h e =
      ⊎_elim
      (λ here.
      let both = and-elim (nat_eq x.0 n) (serves x.1 w) here in
      let same = eqb-true x.0 n both.0 in
      let met = h.0 in
      (met.0, on met.0 x.1 w met.1 both.1, subst (λ m. Q (m, met.0)) same met.2))
      (λ rest. served_met xs n w h.1 rest)
      (or-elim (nat_eq x.0 n && serves x.1 w) (served serves xs n w) e)

  -- where each need that is left has a part, each need is met
  thin_met : (front xs : List Need) → Each (IsMet Q) front → Each Q (thin serves front xs)
      → Each (IsMet Q) xs
  thin_met front [] f h = tt
  thin_met front (x ∷ xs) f h =
      by (λ m g. thin_met (front ++ x ∷ []) xs (each_both (IsMet Q) front (x ∷ []) f (m, tt)) g)
      (served serves front x.0 x.1) refl h
    where
      by : (IsMet Q x → Each Q (thin serves (front ++ x ∷ []) xs) → Each (IsMet Q) xs)
          → (b : Bool) → served serves front x.0 x.1 ≡ b
          → Each Q (cond b (thin serves (front ++ x ∷ []) xs)
          (x ∷ thin serves (front ++ x ∷ []) xs))
          → Each (IsMet Q) (x ∷ xs)
      by next true e g =
          (let m = served_met front x.0 x.1 f e in
          (m, next m g))
      by next false e g =
          (let m : IsMet Q x = (x.1, itself x.1, g.0) in
          (m, next m g.1))

  pub all_met : (xs : List Need) → Each Q (thin serves [] xs) → Each (IsMet Q) xs
  all_met xs h = thin_met [] xs tt h

-- ---- parts

-- each task has one
pub each_part : (net : Network) (xs : List Need) → All (HasTaskPart net) xs
    → Each (HasTaskPart net) xs
each_part net [] a = tt
each_part net (x ∷ xs) a =
    (All-head (HasTaskPart net) x xs a, each_part net xs (All-tail (HasTaskPart net) x xs a))

-- ---- requests

-- what each of several requests needs
pub requests_met : {P : Type 0} (kept : ℕ → Request → Option (Request × P))
    (widen asks : ℕ → Request → Request) (c : Upstream) (Good : Need → Type 0) (rs : List Request)
    → Each Good (all_needs kept widen asks c rs)
    → Shown (λ q. Each Good (needs kept widen asks c q)) rs
requests_met kept widen asks c Good [] h = tt
requests_met kept widen asks c Good (r ∷ rs) h =
    let here = needs kept widen asks c r in
    let rest = all_needs kept widen asks c rs in (
      (r, itself_stems r, each_front Good here rest h),
      requests_met kept widen asks c Good rs (each_back Good here rest h),
    )
