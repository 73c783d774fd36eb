-- Where a plan of requests for all came out, no number of a section is wide upstream.
use Rattle.std.proofs.Common.{◌≡◌, ◌⊎◌, ℕ, Bool, true, false, List, [], ◌∷◌, ◌++◌, Option, None, Some, Result, Ok, Err, refl, subst, inl, inr, ⊎_elim}
use Rattle.viz_dataset.specs.declared.dataset.Dataset.{Dataset}
use Rattle.viz_kept.specs.True.{AreTrueIn}
use Rattle.viz_network.specs.Cone.{Cone, Tree, none, empty, fed, cone_of, port}
use Rattle.viz_network.specs.declared.fault.Fault.{Fault}
use Rattle.viz_network.specs.declared.node.Node.{Node}
use Rattle.viz_node_meaning.specs.Data.{DataRule}
use Rattle.viz_node_meaning.specs.Fold.{IsGiven}
use Rattle.viz_node_meaning.specs.Scratch.{IsBehind}
use Rattle.viz_node_meaning.specs.declared.information.Information.{Information}
use Rattle.viz_node_narrow.specs.Nodes.{
  AreNarrowAt,
  GivenAreNarrow,
  IsNarrowAt,
  IsNarrowCone,
  NarrowAreGiven,
}
use Rattle.viz_parts.specs.declared.request.Part.{Part}
use Rattle.viz_parts.specs.declared.request.Request.{Request}
use Rattle.viz_plan_law.specs.Kept.{KeptPartsServe}
use Rattle.viz_plan_law.proofs.ConeLemmas.{AllAt, IsAt, placed_at}
use Rattle.viz_plan_meaning.specs.Known.{Known, asked_at, kept_at, widened_at}
use Rattle.viz_plan_meaning.specs.Laws.{plan_of}
use Rattle.viz_plan_meaning.specs.Networks.{passes, way_of, ways, ways_to}
use Rattle.viz_plan_meaning.specs.Plan.{Upstream, all_needs, met, needs}
use Rattle.viz_requests.specs.Serving.{ServesItself, ServesOn}
use Rattle.viz_plan_truth.specs.Truth.{
  AreForAll,
  HasTaskPart,
  IsNarrowFoot,
  PlansAreNarrow,
  PlansGive,
}
use Rattle.viz_plan_truth.proofs.FamilyLemmas.{Shown, either_shown, shown_map}
use Rattle.viz_plan_truth.proofs.PlanLemmas.{
  Each,
  IsMet,
  Need,
  all_met,
  each_back,
  each_front,
  each_part,
  requests_met,
}
use Rattle.viz_plan_truth.proofs.StemLemmas.{
  IsStem,
  asked_stems,
  serving_stems,
  widened_stems,
}
use Rattle.viz_plan_truth.proofs.WayLemmas.{
  first_needs,
  passed_needs,
  writer_first,
  writer_narrow,
}

-- ---- kept parts

behind : (i : Result Information Fault) (t : Option Tree) (whole : Dataset)
    → IsBehind i t (Ok whole) → IsGiven DataRule t (Ok whole)
behind (Ok i) t whole b = b
behind (Err fault) t whole b = let bad : ⊥ = cc in absurd bad

-- what the law of nodes says
abbrev pub NodesAreNarrow : Type 0
NodesAreNarrow =
    (n : Node) (own : Cone) (rs : List Request) → AreForAll rs
    → Shown (IsNarrowFoot (Some (n, own))) rs → IsNarrowAt n own

module _ (k : Known) (given : GivenAreNarrow) (serve : KeptPartsServe)
    (are : AreTrueIn k.net k.entries) (node : NodesAreNarrow) (rs : List Request)
    (a : AreForAll rs) where
  -- some part is kept of the node
  abbrev IsKept : ℕ → Type 0
  IsKept id = (w : Request) × (e : Request × Part) × (kept_at k id w ≡ Some e)

  -- then the node gives a dataset, and so no number is wide there
  kept_narrow : (n : Node) (own : Cone) → cone_of k.net n.id.0 ≡ Some (n, own) → IsKept n.id.0
      → IsNarrowAt n own × AreNarrowAt own
  kept_narrow n own cone h =
      let part = (serve k n.id.0 h.0 h.1 are h.2).0 in
      let gives = behind part.given.0 (cone_of k.net n.id.0) part.whole part.given.2 in
      subst IsNarrowCone cone (given (cone_of k.net n.id.0) part.whole gives)

  -- ---- needs

  abbrev Good : Need → Type 0
  Good = IsMet (HasTaskPart k.net)

  abbrev needs_of : Upstream → Request → List Need
  needs_of = needs (kept_at k) (widened_at k) (asked_at k)

  abbrev met_at : Option (Request × Part) → ℕ → Request → (Request → List Need) → List Need
  met_at = met (kept_at k) (widened_at k) (asked_at k)

  abbrev Asked : Upstream → Request → Type 0
  Asked u q = Each Good (needs_of u q)

  -- what a node and its inputs have where nothing is kept
  abbrev Below : ℕ → Upstream → Request → Type 0
  Below id own q = Asked own (asked_at k id (widened_at k id q)) × Good (id, widened_at k id q)

  met_either : (id : ℕ) (own : Upstream) (q : Request) (o : Option (Request × Part))
      → kept_at k id (widened_at k id q) ≡ o
      → Each Good (met_at o id (widened_at k id q) (needs_of own)) → IsKept id ⊎ Below id own q
  met_either id own q (Some e) is h = inl (widened_at k id q, e, is)
  met_either id own q None is h =
      let w = widened_at k id q in
      let up = needs_of own (asked_at k id w) in
      inr (each_front Good up ((id, w) ∷ []) h, (each_back Good up ((id, w) ∷ []) h).0)

  -- ---- a node

  part_narrow : (n : Node) (own : Cone) (u : Upstream) → cone_of k.net n.id.0 ≡ Some (n, own)
      → Shown (Below n.id.0 u) rs → Shown (IsNarrowFoot (Some (n, own))) rs
  part_narrow n own u cone s =
      shown_map (Below n.id.0 u) (IsNarrowFoot (Some (n, own))) one rs s
    where
      one : (r q : Request) → IsStem r q → Below n.id.0 u q
          → (v : Request) × IsStem r v × IsNarrowFoot (Some (n, own)) v
      one r q stem h =
          let id = n.id.0 in
          let w = widened_at k id q in
          let m = h.1 in
          let wide = widened_stems k (cone_of k.net id) r q stem in (
            m.0,
            serving_stems r m.0 w wide m.1,
            subst (λ t. IsNarrowFoot t m.0) cone m.2.1.narrow,
          )

  fed_case : (n : Node) (own others : Cone) → IsAt k.net n own → (b : Bool)
      → passes n.settings ≡ b
      → (Shown (Asked (ways own)) rs → AreNarrowAt own)
      → (Shown (Asked (ways others)) rs → AreNarrowAt others)
      → Shown (Asked (way_of b n.id.0 (ways own) (ways others))) rs
      → AreNarrowAt (fed n own others)
  fed_case n own others at false e up next s =
      let id = n.id.0 in
      let here = λ (q : Request). met_at (kept_at k id (widened_at k id q)) id (widened_at k id q)
      (needs_of (ways own)) in
      let rest = shown_map (Asked (way_of false id (ways own) (ways others))) (Asked (ways others))
      (λ r q stem h. (q, stem, each_back Good (here q) (needs_of (ways others) q) h)) rs s in
      let mine = shown_map (Asked (way_of false id (ways own) (ways others)))
      (λ q. Each Good (here q))
      (λ r q stem h. (q, stem, each_front Good (here q) (needs_of (ways others) q) h)) rs s in
      ⊎_elim
      (λ kept.
      let both = kept_narrow n own at.cone kept in
      (both.0, both.1, next rest))
      (λ all. (
        node n own rs a (part_narrow n own (ways own) at.cone all),
        up (shown_map (Below id (ways own)) (Asked (ways own))
            (λ r q stem h. (
              asked_at k id (widened_at k id q),
              asked_stems k (cone_of k.net id) r (widened_at k id q)
                  (widened_stems k (cone_of k.net id) r q stem),
              h.0,
            )) rs all),
        next rest,
      ))
      (either_shown (λ q. Each Good (here q)) (Below id (ways own)) (IsKept id)
      (λ q h. met_either id (ways own) q (kept_at k id (widened_at k id q)) refl h) rs mine)
  fed_case n own others at true e up next s =
      let first = first_needs (kept_at k) (widened_at k) (asked_at k) own
      (writer_first n.settings own e at.ports) in
      let both = shown_map (Asked (way_of true n.id.0 (ways own) (ways others)))
      (λ q. Each Good (needs_of (ways own) q ++ needs_of (ways others) q))
      (λ r q stem h. (
        q,
        stem,
        subst (Each Good)
            (passed_needs (kept_at k) (widened_at k) (asked_at k)
            (ways own) (ways others) first q) h,
      )) rs s in (
        writer_narrow n own e,
        up (shown_map (λ q. Each Good (needs_of (ways own) q ++ needs_of (ways others) q))
            (Asked (ways own))
            (λ r q stem h.
            (q, stem, each_front Good (needs_of (ways own) q) (needs_of (ways others) q) h))
            rs both),
        next (shown_map (λ q. Each Good (needs_of (ways own) q ++ needs_of (ways others) q))
            (Asked (ways others))
            (λ r q stem h.
            (q, stem, each_back Good (needs_of (ways own) q) (needs_of (ways others) q) h))
            rs both),
      )

  -- ---- all nodes

  pub cone_narrow : (c : Cone) → AllAt k.net c → Shown (Asked (ways c)) rs → AreNarrowAt c
  cone_narrow none h s = tt
  cone_narrow (empty others) h s = cone_narrow others h s
  cone_narrow (fed n own others) h s =
      fed_case n own others h.0 (passes n.settings) refl (cone_narrow own h.1)
      (cone_narrow others h.2) s

sink_narrow : (t : Option Tree) → AreNarrowAt (port t none) → IsNarrowCone t
sink_narrow None h = tt
sink_narrow (Some t) h = (h.0, h.1)

pub plans_narrow : GivenAreNarrow → KeptPartsServe → ServesItself → ServesOn → NodesAreNarrow
    → PlansAreNarrow
plans_narrow given serve itself on node k sink rs came =
    let needed = all_needs (kept_at k) (widened_at k) (asked_at k) (ways_to k.net sink) rs in
    let each = each_part k.net (plan_of k sink rs) came.each in
    let met = all_met itself on (HasTaskPart k.net) needed each in
    let shown = requests_met (kept_at k) (widened_at k) (asked_at k) (ways_to k.net sink)
    (IsMet (HasTaskPart k.net)) rs met in
    sink_narrow (cone_of k.net sink)
    (cone_narrow k given serve came.entries node rs came.all (port (cone_of k.net sink) none)
    (placed_at k.net sink came.placed came.ports) shown)

pub plans_give : NarrowAreGiven → PlansAreNarrow → PlansGive
plans_give law narrow k sink rs came i whole told exact =
    (Ok i, told, law (cone_of k.net sink) whole exact (narrow k sink rs came))
