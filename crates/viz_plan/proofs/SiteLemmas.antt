-- What is known of nodes, by the places of their steps.
use Rattle.std.proofs.Common.{◌≡◌, ℕ, zero, suc, ◌+◌, ◌<◌, ◌≤◌, ◌⊎◌, inl, inr, Bool, true, false, ◌&&◌, cond, find, filter, List, [], ◌∷◌, ◌++◌, length, map, slice_get, Option, None, Some, IfSome, refl, sym, ap, subst, ◌∙◌, arith}
use Rattle.std.specs.Option.{option_map}
use Rattle.std.proofs.lemmas.Option.{slice_get-get_or}
use lib.ListN.{get_or}
use Rattle.viz_base.specs.declared.node.NodeId.{NodeId}
use Rattle.viz_extent.specs.Extent.{Bounds}
use Rattle.viz_network.specs.declared.node.Node.{Node}
use Rattle.viz_network.specs.declared.steps.Step.{Step}
use Rattle.viz_network.specs.Network.{Network, node_of}
use Rattle.viz_network.specs.Cone.{Cone, Tree, none, empty, fed, grow, port, cone_of, stamp_of}
use Rattle.viz_network.specs.Step.{nodes_of, AreFed, AreSteps}
use Rattle.viz_network.proofs.TaleLemmas.{node_id}
use Rattle.viz_parts.specs.declared.request.Part.{Part}
use Rattle.viz_parts.specs.declared.request.Request.{Request}
use Rattle.viz_parts.specs.declared.stored.Stored.{Stored}
use Rattle.viz_requests.specs.Serving.{serves}
use Rattle.viz_requests.specs.Upstream.{widened, asked}
use Rattle.viz_plan_meaning.specs.Known.{Known, asked_at, is_serving, kept_at, ports_extent, tree_asked, tree_widened, widened_at}
use Rattle.viz_plan_meaning.proofs.NetworkLemmas.{step_at}
use Rattle.viz_plan.specs.declared.sites.Site.{Site}
use Rattle.viz_plan.specs.Sites.{AreSites, AreFirstSites, IsSite, first_extent, extent_at, is_present, present}

-- a node at a place has a cone, of itself
cone_at : (net : Network) (steps : List Step) → AreSteps net steps → (p : ℕ) (x : NodeId) → slice_get (nodes_of steps) p ≡ Some x
    → (n : Node) × (c : Cone) × (cone_of net x.0 ≡ Some (n, c)) × (n.id.0 ≡ x.0)
cone_at net steps are p x at =
    let s = step_at steps p x at in
    let st = are.each p s.0 s.1 in (
      st.node,
      grow (cone_of net) st.node.inputs,
      subst (λ y. cone_of net y.0 ≡ Some (st.node, grow (cone_of net) st.node.inputs)) s.2 st.cone,
      node_id net x.0 st.node (subst (λ y. node_of net y.0 ≡ Some st.node) s.2 st.there),
    )

-- the extent at ports, by the places that feed them
whole_is : (k : Known) (order : List NodeId) (bound : ℕ)
    → ((p : ℕ) (x : NodeId) → slice_get order p ≡ Some x → (n : Node) × (c : Cone) × (cone_of k.net x.0 ≡ Some (n, c)) × (n.id.0 ≡ x.0))
    → (inputs : List (Option NodeId)) (places : List (Option ℕ)) → AreFed order bound inputs places
    → first_extent k.extent order places ≡ ports_extent k (grow (cone_of k.net) inputs)
whole_is k order bound cones [] [] f = refl
whole_is k order bound cones (None ∷ inputs) (None ∷ places) f = whole_is k order bound cones inputs places f
whole_is k order bound cones (Some x ∷ inputs) (Some p ∷ places) f =
    let h = cones p x f.1 in
    ap (extent_at k.extent) f.1 ∙ ap k.extent (sym h.3) ∙ sym (ap (λ t. ports_extent k (port t (grow (cone_of k.net) inputs))) h.2)
whole_is k order bound cones [] (p ∷ places) f = absurd f
whole_is k order bound cones (None ∷ inputs) [] f = absurd f
whole_is k order bound cones (None ∷ inputs) (Some p ∷ places) f = absurd f
whole_is k order bound cones (Some x ∷ inputs) [] f = absurd f
whole_is k order bound cones (Some x ∷ inputs) (None ∷ places) f = absurd f

some_inner : {A : Type 0} (a b : A) → Some a ≡ Some b → a ≡ b
some_inner a b e = cc

-- what is known of the node of a step
pub site_is : (k : Known) (steps : List Step) → AreSteps k.net steps → (place : ℕ) (step : Step) (node : Node) (site : Site) → slice_get steps place ≡ Some step → node_of k.net step.node.0 ≡ Some node
    → site.settings ≡ node.settings → site.own ≡ k.extent node.id.0 → site.whole ≡ first_extent k.extent (nodes_of steps) step.inputs
    → site.kept.items ≡ present (stamp_of k.net step.node.0) step.node.0 k.entries
    → (x : NodeId) → slice_get (nodes_of steps) place ≡ Some x → IsSite k x.0 site
site_is k steps are place step node site at there settings own whole kept x named =
    let s = step_at steps place x named in
    let st = are.each place step at in
    let same : s.0 ≡ step = some_inner s.0 step (sym s.1 ∙ at) in
    let is : step.node ≡ x = ap (λ (s : Step). s.node) (sym same) ∙ s.2 in
    let one : st.node ≡ node = some_inner st.node node (sym st.there ∙ there) in
    subst (λ y. IsSite k y.0 site) is
    (record {
      node = st.node;
      ports = grow (cone_of k.net) st.node.inputs;
      cone = st.cone;
      settings = settings ∙ ap (λ (n : Node). n.settings) (sym one);
      own = own ∙ ap (λ (n : Node). k.extent n.id.0) (sym one);
      whole = whole ∙ whole_is k (nodes_of steps) place (λ p y e. cone_at k.net steps are p y e) st.node.inputs step.inputs st.fed;
      kept = kept;
    })

-- a site more
last_or : {A : Type 0} (xs : List A) (y : A) (j : ℕ) (x : A) → slice_get (xs ++ y ∷ []) j ≡ Some x → (slice_get xs j ≡ Some x) ⊎ ((j ≡ length xs) × (y ≡ x))
last_or [] y zero x at = inr (refl, some_inner y x at)
last_or [] y (suc j) x at = let bad : ⊥ = cc in absurd bad
last_or (z ∷ xs) y zero x at = inl at
last_or (z ∷ xs) y (suc j) x at = elim (last_or xs y j x at) [ inl e ↦ inl e | inr e ↦ inr (ap suc e.0, e.1) ]

longer : {A : Type 0} (xs : List A) (y : A) → length (xs ++ y ∷ []) ≡ suc (length xs)
longer [] y = refl
longer (x ∷ xs) y = ap suc (longer xs y)

pub no_sites : (k : Known) (order : List NodeId) → AreFirstSites k order 0 []
no_sites k order = record { each = λ j x s a b. (let bad : ⊥ = cc in absurd bad); count = refl }

pub more_sites : (k : Known) (order : List NodeId) (n : ℕ) (old new : List Site) (site : Site) → AreFirstSites k order n old → ((x : NodeId) → slice_get order n ≡ Some x → IsSite k x.0 site)
    → new ≡ old ++ site ∷ [] → AreFirstSites k order (n + 1) new
more_sites k order n old new site b is grown =
    subst (AreFirstSites k order (n + 1)) (sym grown)
    (record {
      each = λ j x s at e. elim (last_or old site j s e) [
        | inl h ↦ b.each j x s at h
        | inr h ↦ subst (IsSite k x.0) h.1 (is x (subst (λ i. slice_get order i ≡ Some x) (h.0 ∙ b.count) at))
      ];
      count = (let l = longer old site in let m = b.count in omega (arith, l, m));
    })

-- ---- what a site answers

pub widen_is : (k : Known) (id : ℕ) (s : Site) (r : Request) → IsSite k id s → widened s.settings s.own r ≡ widened_at k id r
widen_is k id s r is =
    ap (λ t. widened t s.own r) is.settings ∙ ap (λ o. widened is.node.settings o r) is.own ∙ sym (ap (λ t. tree_widened k t r) is.cone)

pub ask_is : (k : Known) (id : ℕ) (s : Site) (r : Request) → IsSite k id s → asked s.settings s.whole r ≡ asked_at k id r
ask_is k id s r is =
    ap (λ t. asked t s.whole r) is.settings ∙ ap (λ o. asked is.node.settings o r) is.whole ∙ sym (ap (λ t. tree_asked k t r) is.cone)

abbrev request_of : Stored → Request
request_of e = e.key.request

abbrev part_of : Stored → Request × Part
part_of e = (e.key.request, e.part)

-- the first of those that have a property, among those that have another
find_filter : (p : Stored → Bool) (w : Request) (es : List Stored)
    → find (λ r. serves r w) (map request_of (filter p es)) ≡ option_map request_of (find (λ e. p e && serves e.key.request w) es)
find_filter p w [] = refl
find_filter p w (e ∷ es) = by (p e) (find_filter p w es)
  where
    inner : (b : Bool) → find (λ r. serves r w) (map request_of (filter p es)) ≡ option_map request_of (find (λ e. p e && serves e.key.request w) es)
        → cond b (Some e.key.request) (find (λ r. serves r w) (map request_of (filter p es))) ≡ option_map request_of (cond b (Some e) (find (λ e. p e && serves e.key.request w) es))
    inner true h = refl
    inner false h = h

    by : (a : Bool) → find (λ r. serves r w) (map request_of (filter p es)) ≡ option_map request_of (find (λ e. p e && serves e.key.request w) es)
        → find (λ r. serves r w) (map request_of (cond a (e ∷ filter p es) (filter p es)))
        ≡ option_map request_of (cond (a && serves e.key.request w) (Some e) (find (λ e. p e && serves e.key.request w) es))
    by true h = inner (serves e.key.request w) h
    by false h = h

kept_some : (o : Option Stored) (r : Request) → option_map request_of o ≡ Some r → (p : Part) × (option_map part_of o ≡ Some (r, p))
kept_some None r q = let bad : ⊥ = cc in absurd bad
kept_some (Some e) r q = (e.part, ap (λ x. Some (x, e.part)) (some_inner e.key.request r q))

kept_none : (o : Option Stored) → option_map request_of o ≡ None → option_map part_of o ≡ None
kept_none None q = refl
kept_none (Some e) q = let bad : ⊥ = cc in absurd bad

find_is : (k : Known) (id : ℕ) (s : Site) (w : Request) → IsSite k id s → find (λ r. serves r w) s.kept.items ≡ option_map request_of (find (is_serving k id w) k.entries)
find_is k id s w is = ap (find (λ r. serves r w)) is.kept ∙ find_filter (is_present (stamp_of k.net id) id) w k.entries

pub find_some : (k : Known) (id : ℕ) (s : Site) (w r : Request) → IsSite k id s → find (λ r. serves r w) s.kept.items ≡ Some r → (p : Part) × (kept_at k id w ≡ Some (r, p))
find_some k id s w r is e = kept_some (find (is_serving k id w) k.entries) r (sym (find_is k id s w is) ∙ e)

pub find_none : (k : Known) (id : ℕ) (s : Site) (w : Request) → IsSite k id s → find (λ r. serves r w) s.kept.items ≡ None → kept_at k id w ≡ None
find_none k id s w is e = kept_none (find (is_serving k id w) k.entries) (sym (find_is k id s w is) ∙ e)

-- the node at a place
pub extent_here : (extent : ℕ → Option Bounds) (steps : List Step) (p : ℕ) (s : Step) → p < length steps → s ≡ get_or steps p s → extent s.node.0 ≡ extent_at extent (slice_get (nodes_of steps) p)
extent_here extent steps p s within is = ap (extent_at extent) (sym (named steps p s (slice_get-get_or steps p s within ∙ ap Some (sym is))))
  where
    named : (steps : List Step) (p : ℕ) (s : Step) → slice_get steps p ≡ Some s → slice_get (nodes_of steps) p ≡ Some s.node
    named [] p s e = let bad : ⊥ = cc in absurd bad
    named (t ∷ steps) zero s e = ap (λ (s : Step). Some s.node) (some_inner t s e)
    named (t ∷ steps) (suc p) s e = named steps p s e

pub extent_nowhere : (extent : ℕ → Option Bounds) (steps : List Step) (p : ℕ) → length steps ≤ p → None ≡ extent_at extent (slice_get (nodes_of steps) p)
extent_nowhere extent steps p past = ap (extent_at extent) (sym (none steps p past))
  where
    none : (steps : List Step) (p : ℕ) → length steps ≤ p → slice_get (nodes_of steps) p ≡ None
    none [] p l = refl
    none (t ∷ steps) zero l = absurd (omega (arith, l))
    none (t ∷ steps) (suc p) l = none steps p (omega (arith, l))

pub find_if_some : (k : Known) (id : ℕ) (s : Site) (w : Request) (o : Option Request) → IsSite k id s → find (λ r. serves r w) s.kept.items ≡ o
    → IfSome o (λ r. (p : Part) × (kept_at k id w ≡ Some (r, p)))
find_if_some k id s w None is e = tt
find_if_some k id s w (Some r) is e = find_some k id s w r is e
