-- What holds of the node of each task of a plan.
use Rattle.std.proofs.Common.{
  ◌≡◌,
  ℕ,
  Bool,
  true,
  false,
  List,
  [],
  ◌∷◌,
  Option,
  None,
  Some,
  refl,
  sym,
  ap,
  subst,
}
use Rattle.viz_extent.specs.Extent.{Bounds}
use Rattle.viz_kinds.specs.declared.settings.Settings.{Settings}
use Rattle.viz_kinds.specs.declared.settings.Settings.TheVariants as settings
use Rattle.viz_network.specs.Cone.{Cone, Tree, cone_of, empty, fed, none, port}
use Rattle.viz_network.specs.declared.node.Node.{Node}
use Rattle.viz_parts.specs.declared.request.Part.{Part}
use Rattle.viz_parts.specs.declared.request.Request.{Request}
use Rattle.viz_plan_law.proofs.ConeLemmas.{AllAt, AllNodes, IsAt, placed_at, tree_nodes}
use Rattle.viz_plan_law.specs.Fitting.{IsKnown}
use Rattle.viz_plan_meaning.specs.Known.{Known, asked_at, kept_at, tree_widened, widened_at}
use Rattle.viz_plan_meaning.specs.Laws.{plan_of}
use Rattle.viz_plan_meaning.specs.Networks.{passes, way_of, ways, ways_to}
use Rattle.viz_plan_meaning.specs.Plan.{Upstream, all_needs, met, needs}
use Rattle.viz_plan_truth.proofs.NeedLemmas.{each_member, thin_each}
use Rattle.viz_plan_truth.proofs.PlanLemmas.{Each, Need, each_both}
use Rattle.viz_plan_truth.proofs.WayLemmas.{first_needs, passed_needs, writer_first}
use Rattle.viz_requests.specs.Upstream.{widened}
use Rattle.viz_task_parts.specs.Tasks.{IsTaskAt, IsUpdate}

-- what is made for what is made for a request is that
widened_twice : (s : Settings) (own : Option Bounds) (r : Request)
    → widened s own (widened s own r) ≡ widened s own r
widened_twice (settings.File array unit) own r = refl
widened_twice (settings.Crop x0 x1 y0 y1 z0 z1) own r = refl
widened_twice (settings.Sample x y z) own r = refl
widened_twice (settings.Threshold lo hi) own r = refl
widened_twice (settings.Smooth radius) own r = refl
widened_twice (settings.Arith op) own r = refl
widened_twice settings.Tets own r = refl
widened_twice (settings.Select lo hi all) own r = refl
widened_twice (settings.Contour count levels) own r = refl
widened_twice (settings.Cut a b c d) own r = refl
widened_twice settings.Append own r = refl
widened_twice settings.Boundary own r = refl
widened_twice settings.Merge own r = refl
widened_twice (settings.Writer binary digits version) own r = refl

-- the node of a task: no writer, and known as told with all upstream of it; the task is for what
-- the node makes
pub record IsPlanned (k : Known) (x : Need) (n : Node) (own : Cone) : Type 0 where
  pub makes : passes n.settings ≡ false
  pub at : IsAt k.net n own
  pub all : AllAt k.net own
  pub known : IsKnown k n.id.0
  pub above : AllNodes (IsKnown k) own
  pub same : widened n.settings (k.extent n.id.0) x.1 ≡ x.1
  pub id : n.id.0 ≡ x.0

-- some node is so
record HasPlanned (k : Known) (x : Need) : Type 0 where
  node : Node
  cone : Cone
  is : cone_of k.net x.0 ≡ Some (node, cone)
  planned : IsPlanned k x node cone

module _ (k : Known) where
  abbrev needs_of : Upstream → Request → List Need
  needs_of = needs (kept_at k) (widened_at k) (asked_at k)

  abbrev met_at : Option (Request × Part) → ℕ → Request → (Request → List Need) → List Need
  met_at = met (kept_at k) (widened_at k) (asked_at k)

  -- ---- a node

  made_is : (n : Node) (own : Cone) (r : Request) → IsAt k.net n own
      → widened n.settings (k.extent n.id.0) r ≡ widened_at k n.id.0 r
  made_is n own r at = sym (ap (λ (t : Option Tree). tree_widened k t r) at.cone)

  node_planned : (n : Node) (own : Cone) → IsAt k.net n own → AllAt k.net own
      → IsKnown k n.id.0 → AllNodes (IsKnown k) own → passes n.settings ≡ false
      → (q : Request) → HasPlanned k (n.id.0, widened_at k n.id.0 q)
  node_planned n own at all known above e q = record {
    node = n;
    cone = own;
    is = at.cone;
    planned = record {
      makes = e;
      at = at;
      all = all;
      known = known;
      above = above;
      same = subst (λ (w : Request). widened n.settings (k.extent n.id.0) w ≡ w)
          (made_is n own q at) (widened_twice n.settings (k.extent n.id.0) q);
      id = refl;
    };
  }

  -- ---- needs

  met_planned : (id : ℕ) (w : Request) (up : Request → List Need) (o : Option (Request × Part))
      → HasPlanned k (id, w) → ((q : Request) → Each (HasPlanned k) (up q))
      → Each (HasPlanned k) (met_at o id w up)
  met_planned id w up (Some e) h all = tt
  met_planned id w up None h all =
      each_both (HasPlanned k) (up (asked_at k id w)) ((id, w) ∷ [])
      (all (asked_at k id w)) (h, tt)

  fed_planned : (n : Node) (own others : Cone) → IsAt k.net n own → AllAt k.net own
      → IsKnown k n.id.0 → AllNodes (IsKnown k) own → (b : Bool) → passes n.settings ≡ b
      → ((q : Request) → Each (HasPlanned k) (needs_of (ways own) q))
      → ((q : Request) → Each (HasPlanned k) (needs_of (ways others) q))
      → (q : Request)
      → Each (HasPlanned k) (needs_of (way_of b n.id.0 (ways own) (ways others)) q)
  fed_planned n own others at all known above false e up next q =
      let id = n.id.0 in
      let w = widened_at k id q in
      each_both (HasPlanned k) (met_at (kept_at k id w) id w (needs_of (ways own)))
      (needs_of (ways others) q)
      (met_planned id w (needs_of (ways own)) (kept_at k id w)
      (node_planned n own at all known above e q) up)
      (next q)
  fed_planned n own others at all known above true e up next q =
      let first = first_needs (kept_at k) (widened_at k) (asked_at k) own
      (writer_first n.settings own e at.ports) in
      subst (Each (HasPlanned k))
      (sym (passed_needs (kept_at k) (widened_at k) (asked_at k)
      (ways own) (ways others) first q))
      (each_both (HasPlanned k) (needs_of (ways own) q) (needs_of (ways others) q) (up q) (next q))

  each_planned : (c : Cone) → AllAt k.net c → AllNodes (IsKnown k) c → (q : Request)
      → Each (HasPlanned k) (needs_of (ways c) q)
  each_planned none a h q = tt
  each_planned (empty others) a h q = each_planned others a h q
  each_planned (fed n own others) a h q =
      fed_planned n own others a.0 a.1 h.0 h.1 (passes n.settings) refl
      (each_planned own a.1 h.1) (each_planned others a.2 h.2) q

  all_planned : (c : Cone) → AllAt k.net c → AllNodes (IsKnown k) c → (rs : List Request)
      → Each (HasPlanned k) (all_needs (kept_at k) (widened_at k) (asked_at k) (ways c) rs)
  all_planned c a h [] = tt
  all_planned c a h (r ∷ rs) =
      each_both (HasPlanned k) (needs_of (ways c) r)
      (all_needs (kept_at k) (widened_at k) (asked_at k) (ways c) rs)
      (each_planned c a h r) (all_planned c a h rs)

-- ---- the plan

same_tree : (o : Option Tree) (t u : Tree) → o ≡ Some t → o ≡ Some u → t ≡ u
same_tree o t u e f = let same : t ≡ u = cc in same

-- so it is of each task of an update
pub task_planned : (k : Known) (sink : ℕ) (rs : List Request) (task : Need) (n : Node)
    (own : Cone) → IsUpdate k sink rs → IsTaskAt k sink rs task n own → IsPlanned k task n own
task_planned k sink rs task n own u t =
    let foot = port (cone_of k.net sink) none in
    let all = all_planned k foot (placed_at k.net sink u.placed u.ports)
    (tree_nodes (IsKnown k) (cone_of k.net sink) u.known) rs in
    let each = thin_each (HasPlanned k) []
    (all_needs (kept_at k) (widened_at k) (asked_at k) (ways_to k.net sink) rs) all in
    let h = each_member (HasPlanned k) (plan_of k sink rs) task each t.planned in
    subst (λ (x : Tree). IsPlanned k task x.0 x.1)
    (same_tree (cone_of k.net task.0) (h.node, h.cone) (n, own) h.is t.is) h.planned
