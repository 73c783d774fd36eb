-- The tasks of a plan fit what their nodes make.
use Rattle.std.proofs.Common.{
  ◌≡◌,
  ℕ,
  ◌+◌,
  ◌≤◌,
  ◌<◌,
  ◌^◌,
  Bool,
  true,
  false,
  cond,
  List,
  [],
  ◌∷◌,
  ◌++◌,
  Option,
  None,
  Some,
  refl,
  sym,
  ap,
  subst,
  arith,
}
use Rattle.std.proofs.lemmas.List.Elements.{All-from_recursion, recursion_from_All}
use Rattle.std.specs.List.{All, AllByRecursion}
use Rattle.viz_kinds.specs.declared.settings.Settings.{Settings}
use Rattle.viz_kinds.specs.declared.settings.Settings.TheVariants as settings
use Rattle.viz_extent.specs.Extent.{Bounds}
use Rattle.viz_network.specs.Cone.{Cone, Tree, cone_of, empty, fed, none, port}
use Rattle.viz_network.specs.declared.node.Node.{Node}
use Rattle.viz_node_meaning.specs.Information.{InformationRule}
use Rattle.viz_node_meaning.specs.Rules.{IsOne}
use Rattle.viz_parts.specs.declared.request.Part.{Part}
use Rattle.viz_parts.specs.declared.request.Request.{Request}
use Rattle.viz_parts.specs.declared.request.Request.TheVariants.{Block, Piece}
use Rattle.viz_plan_meaning.specs.Known.{
  Known,
  asked_at,
  kept_at,
  ports_extent,
  tree_asked,
  tree_widened,
  widened_at,
}
use Rattle.viz_plan_meaning.specs.Laws.{inputs_of, plan_of}
use Rattle.viz_plan_meaning.specs.Networks.{passed, passes, way_of, ways, ways_above, ways_to}
use Rattle.viz_plan_meaning.specs.Plan.{
  Upstream as Ways,
  all_needs,
  empty as no_node,
  fed as way,
  heads,
  met,
  needs,
  none as no_way,
  served,
  thin,
}
use Rattle.viz_requests.specs.Serving.{serves}
use Rattle.viz_requests.specs.Upstream.{Fits, FittingCanBeAsked, asked, widened}
use Rattle.viz_plan_law.specs.Fitting.{
  FitsAt,
  HasRoomOnWays,
  IsFittingTask,
  IsRequestTo,
  NodesAsk,
  PlansFit,
  RequestsFit,
  TreeCanAsk,
}
use Rattle.viz_plan_law.proofs.AskedLemmas.{
  asked_levels,
  asked_within,
  has_room,
  levels_in,
  widened_fits,
  widened_levels,
}
use Rattle.viz_plan_law.proofs.ConeLemmas.{cone_height, foot_is, height, placed_at, tree_nodes}
use Rattle.viz_plan_law.proofs.GivenLemmas.{AllFit, IsFit, all_fit}
use Rattle.viz_plan_law.proofs.PortLemmas.{AllFed, fed_map}

-- ---- lists

pub all_append : {A : Type 0} (P : A → Type 0) (xs ys : List A) → AllByRecursion P xs
    → AllByRecursion P ys → AllByRecursion P (xs ++ ys)
all_append P [] ys a b = b
all_append P (x ∷ xs) ys a b = (a.0, all_append P xs ys a.1 b)

all_front : {A : Type 0} (P : A → Type 0) (xs ys : List A) → AllByRecursion P (xs ++ ys)
    → AllByRecursion P xs
all_front P [] ys a = tt
all_front P (x ∷ xs) ys a = (a.0, all_front P xs ys a.1)

-- what is left of needs has what all have
all_thin : (P : ℕ × Request → Type 0) (front xs : List (ℕ × Request)) → AllByRecursion P xs
    → AllByRecursion P (thin serves front xs)
all_thin P front [] a = tt
all_thin P front (x ∷ xs) a = by (served serves front x.0 x.1) (all_thin P (front ++ x ∷ []) xs a.1)
  where
    by : (b : Bool) → AllByRecursion P (thin serves (front ++ x ∷ []) xs)
        → AllByRecursion P (cond b (thin serves (front ++ x ∷ []) xs)
        (x ∷ thin serves (front ++ x ∷ []) xs))
    by true rest = rest
    by false rest = (a.0, rest)

-- ---- writers

-- what passes requests on asks for what it is asked for
passes_on : (s : Settings) (o : Option Bounds) (r : Request) → passes s ≡ true → asked s o r ≡ r
passes_on (settings.File array unit) o r e = let bad : ⊥ = cc in absurd bad
passes_on (settings.Crop x0 x1 y0 y1 z0 z1) o r e = let bad : ⊥ = cc in absurd bad
passes_on (settings.Sample x y z) o r e = let bad : ⊥ = cc in absurd bad
passes_on (settings.Threshold lo hi) o r e = let bad : ⊥ = cc in absurd bad
passes_on (settings.Smooth radius) o r e = let bad : ⊥ = cc in absurd bad
passes_on (settings.Arith op) o r e = let bad : ⊥ = cc in absurd bad
passes_on settings.Tets o r e = let bad : ⊥ = cc in absurd bad
passes_on (settings.Select lo hi all) o r e = let bad : ⊥ = cc in absurd bad
passes_on (settings.Contour count levels) o r e = let bad : ⊥ = cc in absurd bad
passes_on (settings.Cut a b c d) o r e = let bad : ⊥ = cc in absurd bad
passes_on settings.Append o r e = let bad : ⊥ = cc in absurd bad
passes_on settings.Boundary o r e = let bad : ⊥ = cc in absurd bad
passes_on settings.Merge o r e = let bad : ⊥ = cc in absurd bad
passes_on (settings.Writer binary digits version) o r e = refl

pub passed_heads : (P : Option ℕ → Type 0) → P None → (own others : Ways)
    → AllByRecursion P (heads own) → AllByRecursion P (heads others)
    → AllByRecursion P (heads (passed own others))
passed_heads P nothing no_way others a b = (nothing, b)
passed_heads P nothing (no_node c) others a b = (nothing, b)
passed_heads P nothing (way m own c) others a b = (a.0, b)

module _ (k : Known) where
  abbrev need : Ways → Request → List (ℕ × Request)
  need c r = needs (kept_at k) (widened_at k) (asked_at k) c r

  abbrev AllTasks : List (ℕ × Request) → Type 0
  AllTasks xs = AllByRecursion (IsFittingTask k) xs

  abbrev met_at : Option (Request × Part) → ℕ → Request → (Request → List (ℕ × Request))
      → List (ℕ × Request)
  met_at o id w up = met (kept_at k) (widened_at k) (asked_at k) o id w up

  passed_tasks : (own others : Ways) (r : Request) → AllTasks (need own r)
      → AllTasks (need others r) → AllTasks (need (passed own others) r)
  passed_tasks no_way others r a b = b
  passed_tasks (no_node c) others r a b = b
  passed_tasks (way m own c) others r a b =
      let mine = met_at (kept_at k m (widened_at k m r)) m (widened_at k m r) (need own) in
      all_append (IsFittingTask k) mine (need others r)
      (all_front (IsFittingTask k) mine (need c r) a) b

  met_tasks : (o : Option (Request × Part)) (id : ℕ) (w : Request)
      (up : Request → List (ℕ × Request))
      → AllTasks (up (asked_at k id w) ++ (id, w) ∷ []) → AllTasks (met_at o id w up)
  met_tasks (Some e) id w up a = tt
  met_tasks None id w up a = a

  module _ (one : IsOne InformationRule) (fitting : FittingCanBeAsked) where
    -- ---- one node

    -- the request fits what feeds the ports
    abbrev Wants : Request → Cone → Type 0
    Wants r c = AllFed (λ n. Fits (k.extent n.id.0) r) c

    abbrev Stands : Cone → Type 0
    Stands c = AllFit k one fitting c

    abbrev Fit : Node → Cone → Type 0
    Fit n own = IsFit k one fitting n own

    -- levels for all nodes of a way
    abbrev Few : Request → Cone → Type 0
    Few r c = levels_in r + height c < 2 ^ 32

    asked_wants : (n : Node) (own : Cone) (w : Request) → Fit n own → Fits (k.extent n.id.0) w
        → Wants (asked n.settings (ports_extent k own) w) own
    asked_wants n own w f fits =
        let q = asked n.settings (ports_extent k own) w in
        let has = asked_within n.settings (ports_extent k own) (k.extent n.id.0) w f.deep
        f.asks.can fits in
        fed_map (λ m. k.extent m.id.0 ≡ ports_extent k own) (λ m. Fits (k.extent m.id.0) q)
        (λ m e. subst (λ (o : Option Bounds). Fits o q) (sym e) has) own f.asks.all

    -- what a writer is asked for fits what feeds it
    passed_wants : (n : Node) (own : Cone) (r : Request) → passes n.settings ≡ true → Fit n own
        → Fits (k.extent n.id.0) r → Wants r own
    passed_wants n own r p f fits =
        subst (λ (q : Request). Wants q own) (passes_on n.settings (ports_extent k own) r p)
        (asked_wants n own r f fits)

    -- what the node makes
    made_is : (n : Node) (own : Cone) (r : Request) → Fit n own
        → widened n.settings (k.extent n.id.0) r ≡ widened_at k n.id.0 r
    made_is n own r f = sym (ap (λ (t : Option Tree). tree_widened k t r) f.cone)

    made_fits : (n : Node) (own : Cone) (r : Request) → Fit n own → Fits (k.extent n.id.0) r
        → Fits (k.extent n.id.0) (widened_at k n.id.0 r)
    made_fits n own r f fits =
        subst (Fits (k.extent n.id.0)) (made_is n own r f)
        (widened_fits n.settings (k.extent n.id.0) r fits)

    made_levels : (n : Node) (own : Cone) (r : Request) → Fit n own
        → levels_in (widened_at k n.id.0 r) ≤ levels_in r
    made_levels n own r f =
        subst (λ (q : Request). levels_in q ≤ levels_in r) (made_is n own r f)
        (widened_levels n.settings (k.extent n.id.0) r)

    -- what it asks for
    asked_is : (n : Node) (own : Cone) (w : Request) → Fit n own
        → asked n.settings (ports_extent k own) w ≡ asked_at k n.id.0 w
    asked_is n own w f = sym (ap (λ (t : Option Tree). tree_asked k t w) f.cone)

    up_wants : (n : Node) (own : Cone) (w : Request) → Fit n own → Fits (k.extent n.id.0) w
        → Wants (asked_at k n.id.0 w) own
    up_wants n own w f fits =
        subst (λ (q : Request). Wants q own) (asked_is n own w f) (asked_wants n own w f fits)

    up_levels : (n : Node) (own : Cone) (w : Request) → Fit n own
        → levels_in (asked_at k n.id.0 w) ≤ levels_in w + 1
    up_levels n own w f =
        subst (λ (q : Request). levels_in q ≤ levels_in w + 1) (asked_is n own w f)
        (asked_levels n.settings (ports_extent k own) w)

    -- ---- what feeds ports

    heads_fit : (c : Cone) (r : Request) → Stands c → Wants r c
        → AllByRecursion (FitsAt k r) (heads (ways c))
    heads_fit none r s w = tt
    heads_fit (empty c) r s w = (tt, heads_fit c r s w)
    heads_fit (fed n own c) r s w =
        by (passes n.settings) refl (heads_fit c r s.2 w.1)
        (λ p. heads_fit own r s.1 (passed_wants n own r p s.0 w.0))
      where
        by : (b : Bool) → passes n.settings ≡ b → AllByRecursion (FitsAt k r) (heads (ways c))
            → (passes n.settings ≡ true → AllByRecursion (FitsAt k r) (heads (ways own)))
            → AllByRecursion (FitsAt k r) (heads (way_of b n.id.0 (ways own) (ways c)))
        by true p rest up = passed_heads (FitsAt k r) tt (ways own) (ways c) (up p) rest
        by false p rest up = ((w.0, made_fits n own r s.0 w.0), rest)

    inputs_fit : (n : Node) (own : Cone) (w : Request) → Fit n own → Stands own
        → Fits (k.extent n.id.0) w
        → All (FitsAt k (asked_at k n.id.0 w)) (inputs_of k.net n.id.0)
    inputs_fit n own w f s fits =
        let up = heads_fit own (asked_at k n.id.0 w) s (up_wants n own w f fits) in
        All-from_recursion (FitsAt k (asked_at k n.id.0 w)) (inputs_of k.net n.id.0)
        (subst
        (λ (t : Option Tree). AllByRecursion (FitsAt k (asked_at k n.id.0 w))
        (heads (ways_above t)))
        (sym f.cone) up)

    -- ---- tasks

    task_fits : (n : Node) (own : Cone) (w : Request) → Fit n own → Stands own
        → Fits (k.extent n.id.0) w → levels_in w + 1 < 2 ^ 32 → IsFittingTask k (n.id.0, w)
    task_fits n own w f s fits l = record {
      own = fits;
      room = has_room w l;
      can = subst (λ (t : Option Tree). TreeCanAsk k t w) (sym f.cone)
          (f.asks.can w fits (has_room w l));
      inputs = inputs_fit n own w f s fits;
    }

    needs_fit : (c : Cone) (r : Request) → Stands c → Wants r c → Few r c
        → AllTasks (need (ways c) r)
    needs_fit none r s w l = tt
    needs_fit (empty c) r s w l = needs_fit c r s w l
    needs_fit (fed n own c) r s w l =
        by (passes n.settings) refl (needs_fit c r s.2 w.1 (omega (arith, l)))
        (λ p. needs_fit own r s.1 (passed_wants n own r p s.0 w.0) (omega (arith, l)))
        (
        let fits = made_fits n own r s.0 w.0 in
        let made = made_levels n own r s.0 in
        let levels = up_levels n own (widened_at k n.id.0 r) s.0 in
        all_append (IsFittingTask k)
        (need (ways own) (asked_at k n.id.0 (widened_at k n.id.0 r)))
        ((n.id.0, widened_at k n.id.0 r) ∷ [])
        (needs_fit own (asked_at k n.id.0 (widened_at k n.id.0 r)) s.1
        (up_wants n own (widened_at k n.id.0 r) s.0 fits)
        (omega (arith, l, made, levels)))
        (task_fits n own (widened_at k n.id.0 r) s.0 s.1 fits (omega (arith, l, made)), tt)
        )
      where
        by : (b : Bool) → passes n.settings ≡ b → AllTasks (need (ways c) r)
            → (passes n.settings ≡ true → AllTasks (need (ways own) r))
            → AllTasks (need (ways own) (asked_at k n.id.0 (widened_at k n.id.0 r))
            ++ (n.id.0, widened_at k n.id.0 r) ∷ [])
            → AllTasks (need (way_of b n.id.0 (ways own) (ways c)) r)
        by true p rest up mine = passed_tasks (ways own) (ways c) r (up p) rest
        by false p rest up mine =
            all_append (IsFittingTask k)
            (met_at (kept_at k n.id.0 (widened_at k n.id.0 r)) n.id.0 (widened_at k n.id.0 r)
            (need (ways own)))
            (need (ways c) r)
            (met_tasks (kept_at k n.id.0 (widened_at k n.id.0 r)) n.id.0
            (widened_at k n.id.0 r) (need (ways own)) mine)
            rest

    -- ---- plans

    room_levels : (r : Request) → HasRoomOnWays r → levels_in r + 256 < 2 ^ 32
    room_levels (Block b) h = omega arith
    room_levels (Piece p n g) h = h

    few_at : (sink : ℕ) (r : Request) → HasRoomOnWays r → Few r (port (cone_of k.net sink) none)
    few_at sink r h =
        let most = cone_height k.net sink in
        let few = room_levels r h in
        omega (arith, most, few)

    sink_wants : (sink : ℕ) (r : Request) → Fits (k.extent sink) r
        → Wants r (port (cone_of k.net sink) none)
    sink_wants sink r fits = by (cone_of k.net sink) refl
      where
        by : (t : Option Tree) → cone_of k.net sink ≡ t → Wants r (port t none)
        by None e = tt
        by (Some t) e = (
          subst (λ (x : ℕ). Fits (k.extent x) r) (sym (foot_is k.net sink t e)) fits,
          tt,
        )

    all_fit_needs : (sink : ℕ) (rs : List Request) → Stands (port (cone_of k.net sink) none)
        → AllByRecursion (IsRequestTo k sink) rs
        → AllTasks (all_needs (kept_at k) (widened_at k) (asked_at k) (ways_to k.net sink) rs)
    all_fit_needs sink [] s a = tt
    all_fit_needs sink (r ∷ rs) s a =
        all_append (IsFittingTask k) (need (ways_to k.net sink) r)
        (all_needs (kept_at k) (widened_at k) (asked_at k) (ways_to k.net sink) rs)
        (needs_fit (port (cone_of k.net sink) none) r s (sink_wants sink r a.0.fits)
        (few_at sink r a.0.room))
        (all_fit_needs sink rs s a.1)

-- ---- the laws

module _ (one : IsOne InformationRule) (fitting : FittingCanBeAsked) where
  pub plans_fit : PlansFit
  plans_fit k sink rs placed have known all =
      let s = all_fit k one fitting (port (cone_of k.net sink) none)
      (placed_at k.net sink placed have) (tree_nodes _ (cone_of k.net sink) known) in
      All-from_recursion (IsFittingTask k) (plan_of k sink rs)
      (all_thin (IsFittingTask k) []
      (all_needs (kept_at k) (widened_at k) (asked_at k) (ways_to k.net sink) rs)
      (all_fit_needs k one fitting sink rs s (recursion_from_All (IsRequestTo k sink) rs all)))

  pub requests_fit : RequestsFit
  requests_fit k sink r placed have known is =
      let s = all_fit k one fitting (port (cone_of k.net sink) none)
      (placed_at k.net sink placed have) (tree_nodes _ (cone_of k.net sink) known) in
      All-from_recursion (FitsAt k r) (heads (ways_to k.net sink))
      (heads_fit k one fitting (port (cone_of k.net sink) none) r s
      (sink_wants k one fitting sink r is.fits))

  -- what a node asks its inputs for fits them
  tree_asks : (k : Known) (id : ℕ) (r : Request) (t : Option Tree) → cone_of k.net id ≡ t
      → AllFit k one fitting (port t none) → Fits (k.extent id) r
      → All (FitsAt k (asked_at k id r)) (inputs_of k.net id)
  tree_asks k id r None e s fits =
      subst (λ (t : Option Tree). All (FitsAt k (asked_at k id r)) (heads (ways_above t))) (sym e)
      (All-from_recursion (FitsAt k (asked_at k id r)) [] tt)
  tree_asks k id r (Some t) e s fits =
      let same = foot_is k.net id t e in
      subst (λ (x : ℕ). All (FitsAt k (asked_at k x r)) (inputs_of k.net x)) same
      (inputs_fit k one fitting t.0 t.1 r s.0 s.1
      (subst (λ (x : ℕ). Fits (k.extent x) r) (sym same) fits))

  pub nodes_ask : NodesAsk
  nodes_ask k id r placed have known fits =
      tree_asks k id r (cone_of k.net id) refl
      (all_fit k one fitting (port (cone_of k.net id) none) (placed_at k.net id placed have)
      (tree_nodes _ (cone_of k.net id) known)) fits
