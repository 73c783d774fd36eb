-- The laws of the plan, of nodes of a network.
use Rattle.std.proofs.Common.{◌≡◌, ℕ, Bool, true, false, ◌&&◌, nat_eq, cond, find, List, [], ◌∷◌, ◌++◌, Option, None, Some, Result, Ok, Err, refl, sym, ap, subst, ◌∙◌}
use Rattle.std.specs.Option.{option_map}
use Rattle.viz_network.specs.declared.fault.Fault.{Fault}
use Rattle.viz_network.specs.declared.node.Node.{Node}
use Rattle.viz_parts.specs.declared.request.Part.{Part}
use Rattle.viz_parts.specs.declared.request.Request.{Request}
use Rattle.viz_parts.specs.declared.stored.Stored.{Stored}
use Rattle.viz_requests.specs.Serving.{serves, ServesItself, ServesOn}
use Rattle.viz_plan_meaning.specs.Plan.{heads, AllOf}
use Rattle.viz_plan_meaning.specs.Networks.{ways_at, ways_to}
use Rattle.viz_plan_meaning.specs.Known.{Known, asked_at, is_serving, is_stamp, kept_at, widened_at}
use Rattle.viz_plan_meaning.specs.Evaluation.{AllAsked, AllShown, AllTrue, Leads, Produces}
use Rattle.viz_plan_meaning.specs.Laws.{HasTasks, IsPlaced, Stands, PlansStand, IsSound, IsSpoiling, OrdersProduce, PlansProduce, NoFaultHides, evaluation, in_levels, inputs_of, plan_of}
use Rattle.viz_plan_meaning.specs.Levels.{needs_of}
use Rattle.viz_plan_meaning.specs.Steps.Visits.{IsOne}
use Rattle.viz_plan_meaning.proofs.NetworkLemmas.{sink_stands}
use Rattle.viz_plan_meaning.proofs.OrderLemmas.{plan_levels}
use Rattle.viz_plan_meaning.proofs.PlanLemmas.{and-elim, Comes, evaluated_comes, all_fed, no_fault_hides as shown_all}

-- what lies upstream of a node of a network: each node has one cone, and tasks
pub placed : (k : Known) (sink : ℕ) → IsPlaced k.net sink → IsOne (ways_at k.net) (ways_to k.net sink) × AllOf (HasTasks k.net) (ways_to k.net sink)
placed k sink p =
    subst (λ i. IsOne (ways_at k.net) (ways_to k.net i) × AllOf (HasTasks k.net) (ways_to k.net i)) p.is
    (sink_stands k.net p.steps p.are (HasTasks k.net) (λ n j x at there makes. record { node = n; there = there; makes = makes }) p.place p.node p.at)

pub plans_stand : ServesItself → ServesOn → PlansStand
plans_stand itself on k sink rs p =
    let s = placed k sink p in
    let l = plan_levels serves itself on (kept_at k) (widened_at k) (asked_at k) (ways_at k.net) (HasTasks k.net) (ways_to k.net sink) rs s.0 s.1 in
    record { tasks = l.0; levels = l.1; below = l.2; each = l.3; ready = l.4; met = l.5 }

-- the entry that is found has the property
found : (p : Stored → Bool) (xs : List Stored) (e : Request × Part) → option_map (λ e. (e.key.request, e.part)) (find p xs) ≡ Some e
    → (x : Stored) × (p x ≡ true) × ((x.key.request, x.part) ≡ e)
found p [] e q = let bad : ⊥ = cc in absurd bad
found p (x ∷ xs) e q = by (p x) refl q (found p xs e)
  where
    inner : (a b : Request × Part) → Some a ≡ Some b → a ≡ b
    inner a b e = cc

    by : (b : Bool) → p x ≡ b → option_map (λ e. (e.key.request, e.part)) (cond b (Some x) (find p xs)) ≡ Some e
        → (option_map (λ e. (e.key.request, e.part)) (find p xs) ≡ Some e → (x : Stored) × (p x ≡ true) × ((x.key.request, x.part) ≡ e))
        → (x : Stored) × (p x ≡ true) × ((x.key.request, x.part) ≡ e)
    by true h q rest = (x, h, inner (x.key.request, x.part) e q)
    by false h q rest = rest q

kept_serves : (k : Known) (n : ℕ) (w : Request) (e : Request × Part) → kept_at k n w ≡ Some e → serves e.0 w ≡ true
kept_serves k n w e q =
    let f = found (is_serving k n w) k.entries e q in
    let s = and-elim _ _ f.1 in
    subst (λ a. serves a.0 w ≡ true) f.2 s.1

pub orders_produce : ServesItself → ServesOn → (k : Known) (restrict : Request × Part → Request → Part) (run : ℕ → Request → List (Option Part) → Result Part Fault)
    (IsTrue : ℕ → Request → Part → Type 0) (Faults : ℕ → Fault → Type 0) → IsSound k restrict run IsTrue Faults → OrdersProduce k restrict run IsTrue Faults
orders_produce itself on k restrict run IsTrue Faults sound tasks rs is ready met =
    by (evaluation k restrict run tasks)
    (evaluated_comes serves itself on (kept_at k) (widened_at k) (asked_at k) (inputs_of k.net) (HasTasks k.net) restrict run IsTrue Faults sound.cut kept_true sound.made [] tasks tt ready)
  where
    kept_true : (n : ℕ) (w : Request) (e : Request × Part) → kept_at k n w ≡ Some e → IsTrue n e.0 e.1 × (serves e.0 w ≡ true)
    kept_true n w e q = (sound.kept n w e q, kept_serves k n w e q)

    by : (s : Result (List ((ℕ × Request) × Part)) Fault)
        → Comes serves itself on (kept_at k) (widened_at k) (asked_at k) (inputs_of k.net) (HasTasks k.net) restrict run IsTrue Faults sound.cut kept_true [] tasks s
        → Produces serves (kept_at k) (widened_at k) (asked_at k) (inputs_of k.net) restrict run IsTrue (HasTasks k.net) Faults tasks rs is s
    by (Ok u) h = (
      h.1,
      h.0,
      all_fed serves itself on (kept_at k) (widened_at k) (asked_at k) (inputs_of k.net) (HasTasks k.net) restrict run IsTrue Faults sound.cut kept_true sound.made u rs is h.0
          (subst (λ l. AllAsked serves (kept_at k) (widened_at k) (asked_at k) (inputs_of k.net) (HasTasks k.net) l rs is) (sym h.1) met),
    )
    by (Err e) h = h

pub plans_produce : ServesItself → ServesOn → (k : Known) (restrict : Request × Part → Request → Part) (run : ℕ → Request → List (Option Part) → Result Part Fault)
    (IsTrue : ℕ → Request → Part → Type 0) (Faults : ℕ → Fault → Type 0) → IsSound k restrict run IsTrue Faults → PlansProduce k restrict run IsTrue Faults
plans_produce itself on k restrict run IsTrue Faults sound sink rs p =
    let s = plans_stand itself on k sink rs p in
    orders_produce itself on k restrict run IsTrue Faults sound (needs_of (in_levels k sink rs)) rs (heads (ways_to k.net sink)) s.ready s.met

pub no_fault_hides : ServesItself → ServesOn → (k : Known) (restrict : Request × Part → Request → Part) (run : ℕ → Request → List (Option Part) → Result Part Fault)
    (IsTrue : ℕ → Request → Part → Type 0) (Faults : ℕ → Fault → Type 0) (Spoilt : ℕ → Type 0) (Stems : Request → Request → Type 0)
    → IsSound k restrict run IsTrue Faults → IsSpoiling k Spoilt Stems → NoFaultHides k IsTrue Spoilt Stems
no_fault_hides itself on k restrict run IsTrue Faults Spoilt Stems sound spoiling sink rs made all same n leads =
    shown_all serves itself on (kept_at k) (widened_at k) (asked_at k) (inputs_of k.net) (HasTasks k.net) restrict run IsTrue Faults sound.cut
    (λ n w e q. (sound.kept n w e q, kept_serves k n w e q))
    Spoilt spoiling.unkept Stems spoiling.root spoiling.widened spoiling.asked spoiling.served (ways_to k.net sink) rs made all same n leads
