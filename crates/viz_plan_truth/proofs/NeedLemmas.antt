-- What all nodes upstream of a node have, each task of its plan has at its node.
use Rattle.std.proofs.Common.{◌≡◌, ℕ, Bool, true, false, cond, List, [], ◌∷◌, ◌++◌, Option, None, Some, refl, sym, subst, ⊎_elim}
use Rattle.std.specs.List.{Contains}
use Rattle.viz_network.specs.Cone.{Cone, Tree, none, empty, fed, cone_of, port}
use Rattle.viz_network.specs.declared.node.Node.{Node}
use Rattle.viz_parts.specs.declared.request.Part.{Part}
use Rattle.viz_parts.specs.declared.request.Request.{Request}
use Rattle.viz_plan_law.proofs.ConeLemmas.{AllAt, IsAt, placed_at}
use Rattle.viz_plan_law.specs.Ports.{HaveOwnPorts}
use Rattle.viz_plan_meaning.specs.Known.{Known, asked_at, kept_at, widened_at}
use Rattle.viz_plan_meaning.specs.Laws.{IsPlaced, plan_of}
use Rattle.viz_plan_meaning.specs.Networks.{passes, way_of, ways, ways_to}
use Rattle.viz_plan_meaning.specs.Plan.{Upstream, all_needs, met, needs, served, thin}
use Rattle.viz_requests.specs.Serving.{serves}
use Rattle.viz_sheet.proofs.MemberLemmas.{member_cases, no_member}
use Rattle.viz_plan_truth.proofs.PlanLemmas.{Each, Need, each_both}
use Rattle.viz_plan_truth.proofs.WayLemmas.{first_needs, passed_needs, writer_first}

-- all nodes of a cone have the property, each with what lies upstream of it
abbrev pub AllHave : (Option Tree → Type 0) → Cone → Type 0
AllHave P none = Unit {0}
AllHave P (empty others) = AllHave P others
AllHave P (fed n own others) = P (Some (n, own)) × AllHave P own × AllHave P others

-- ---- lists

pub thin_each : (P : Need → Type 0) (front xs : List Need) → Each P xs
    → Each P (thin serves front xs)
thin_each P front [] h = tt
thin_each P front (x ∷ xs) h =
    by (served serves front x.0 x.1) (thin_each P (front ++ x ∷ []) xs h.1)
  where
    by : (b : Bool) → Each P (thin serves (front ++ x ∷ []) xs)
        → Each P (cond b (thin serves (front ++ x ∷ []) xs)
        (x ∷ thin serves (front ++ x ∷ []) xs))
    by true r = r
    by false r = (h.0, r)

pub each_member : (P : Need → Type 0) (xs : List Need) (x : Need) → Each P xs → Contains xs x
    → P x
each_member P [] x h c = absurd (no_member x c)
each_member P (y ∷ ys) x h c =
    ⊎_elim (λ e. subst P e h.0) (λ d. each_member P ys x h.1 d) (member_cases y ys x c)

-- ---- needs

module _ (k : Known) (P : Option Tree → Type 0) where
  abbrev needs_of : Upstream → Request → List Need
  needs_of = needs (kept_at k) (widened_at k) (asked_at k)

  abbrev met_at : Option (Request × Part) → ℕ → Request → (Request → List Need) → List Need
  met_at = met (kept_at k) (widened_at k) (asked_at k)

  -- the node of a need has it
  abbrev HasAt : Need → Type 0
  HasAt x = P (cone_of k.net x.0)

  met_has : (id : ℕ) (w : Request) (up : Request → List Need) (o : Option (Request × Part))
      → HasAt (id, w) → ((q : Request) → Each HasAt (up q)) → Each HasAt (met_at o id w up)
  met_has id w up (Some e) h all = tt
  met_has id w up None h all =
      each_both HasAt (up (asked_at k id w)) ((id, w) ∷ []) (all (asked_at k id w)) (h, tt)

  fed_has : (n : Node) (own others : Cone) → IsAt k.net n own → (b : Bool)
      → passes n.settings ≡ b → P (Some (n, own))
      → ((q : Request) → Each HasAt (needs_of (ways own) q))
      → ((q : Request) → Each HasAt (needs_of (ways others) q))
      → (q : Request) → Each HasAt (needs_of (way_of b n.id.0 (ways own) (ways others)) q)
  fed_has n own others at false e h up next q =
      let id = n.id.0 in
      let w = widened_at k id q in
      each_both HasAt (met_at (kept_at k id w) id w (needs_of (ways own)))
      (needs_of (ways others) q)
      (met_has id w (needs_of (ways own)) (kept_at k id w) (subst P (sym at.cone) h) up)
      (next q)
  fed_has n own others at true e h up next q =
      let first = first_needs (kept_at k) (widened_at k) (asked_at k) own
      (writer_first n.settings own e at.ports) in
      subst (Each HasAt)
      (sym (passed_needs (kept_at k) (widened_at k) (asked_at k)
      (ways own) (ways others) first q))
      (each_both HasAt (needs_of (ways own) q) (needs_of (ways others) q) (up q) (next q))

  each_has : (c : Cone) → AllAt k.net c → AllHave P c → (q : Request)
      → Each HasAt (needs_of (ways c) q)
  each_has none a h q = tt
  each_has (empty others) a h q = each_has others a h q
  each_has (fed n own others) a h q =
      fed_has n own others a.0 (passes n.settings) refl h.0
      (each_has own a.1 h.1) (each_has others a.2 h.2) q

  all_has : (c : Cone) → AllAt k.net c → AllHave P c → (rs : List Request)
      → Each HasAt (all_needs (kept_at k) (widened_at k) (asked_at k) (ways c) rs)
  all_has c a h [] = tt
  all_has c a h (r ∷ rs) =
      each_both HasAt (needs_of (ways c) r)
      (all_needs (kept_at k) (widened_at k) (asked_at k) (ways c) rs)
      (each_has c a h r) (all_has c a h rs)

  -- ---- the plan

  pub task_has : (sink : ℕ) (rs : List Request) (task : Need) → IsPlaced k.net sink
      → HaveOwnPorts k.net → AllHave P (port (cone_of k.net sink) none)
      → Contains (plan_of k sink rs) task → P (cone_of k.net task.0)
  task_has sink rs task placed have h in_plan =
      let all = all_has (port (cone_of k.net sink) none) (placed_at k.net sink placed have) h rs in
      let each = thin_each HasAt []
      (all_needs (kept_at k) (widened_at k) (asked_at k) (ways_to k.net sink) rs) all in
      each_member HasAt (plan_of k sink rs) task each in_plan
