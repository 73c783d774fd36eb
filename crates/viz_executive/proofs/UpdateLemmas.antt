-- What an update goes by, and what it comes to.
use Rattle.std.proofs.Common.{◌≡◌, ℕ, true, false, nat_eq, slice_get, List, Option, None, Some, IsSome, refl, sym, subst, ◌∙◌, ap}
use Rattle.std.proofs.lemmas.Bool.{eq-eqb}
use Rattle.viz_base.specs.declared.node.NodeId.{NodeId}
use Rattle.viz_inform.specs.Informed.{AreTold}
use Rattle.viz_inform.specs.declared.told.Told.{Told}
use Rattle.viz_network.specs.Cone.{Tree, cone_of, either, has_node, joined}
use Rattle.viz_network.specs.Network.{Network, node_of}
use Rattle.viz_network.specs.Step.{AreSteps, nodes_of}
use Rattle.viz_network.specs.declared.node.Node.{Node}
use Rattle.viz_network.specs.declared.steps.Step.{Step}
use Rattle.viz_parts.specs.declared.request.Request.{Request}
use Rattle.viz_parts.specs.declared.stored.Stored.{Stored}
use Rattle.viz_plan.specs.Sites.{SitesData, known_in}
use Rattle.viz_plan.specs.Told.{extent_told, known_with}
use Rattle.viz_plan_law.specs.Fitting.{AllKnown, IsKnown, ToldIsKnown, UpdatesFit}
use Rattle.viz_plan_law.specs.Ports.{HaveOwnPorts}
use Rattle.viz_plan_law.proofs.ConeLemmas.{foot_is}
use Rattle.viz_plan_meaning.specs.Known.{Known}
use Rattle.viz_plan_meaning.proofs.NetworkLemmas.{step_at}
use Rattle.viz_requests.specs.Shapes.{requests_of}
use Rattle.viz_task_parts.specs.Tasks.{IsUpdate}

-- ---- the node of an update is in its own cone

root_in : (id : ℕ) (t : Tree) → t.0.id.0 ≡ id → has_node id (Some t) ≡ true
root_in id t e =
    ap (λ b. either b (joined either false (λ n. nat_eq id n.id.0) t.1))
    (eq-eqb id t.0.id.0 (sym e))

-- a node with a cone
pub record HasTree (net : Network) (id : ℕ) : Type 0 where
  pub tree : Tree
  pub is : cone_of net id ≡ Some tree

tree_at : (net : Network) (steps : List Step) → AreSteps net steps → (p : ℕ) (x : NodeId)
    → slice_get (nodes_of steps) p ≡ Some x → HasTree net x.0
tree_at net steps are p x at =
    let s = step_at steps p x at in
    let st = are.each p s.0 s.1 in
    subst (λ (y : NodeId). HasTree net y.0) s.2 (record { tree = _; is = st.cone })

known_at : (k : Known) (id : ℕ) → HasTree k.net id → AllKnown k id → IsKnown k id
known_at k id h all =
    let is = h.is in
    all id (subst (λ t. has_node id t ≡ true) (sym is) (root_in id h.tree (foot_is k.net id h.tree is)))

-- ---- what is placed

-- a place of a node
pub record IsThere (net : Network) (steps : List Step) (x : NodeId) : Type 0 where
  pub place : ℕ
  pub at : slice_get (nodes_of steps) place ≡ Some x

there_at : (net : Network) (steps : List Step) → AreSteps net steps → (x : NodeId)
    (o : Option Node) → node_of net x.0 ≡ o → IsSome o → IsThere net steps x
there_at net steps are x None e some = let bad : ⊥ = cc in absurd bad
there_at net steps are x (Some n) e some =
    let h = are.covers x n e in record { place = h.0; at = h.1 }

-- an update by what is told and kept
pub update_of : ToldIsKnown → UpdatesFit → (net : Network) (told : List Told)
    (entries : List Stored) (sink : NodeId) (pieces : ℕ) (steps : List Step) → AreSteps net steps
    → IsSome (node_of net sink.0) → HaveOwnPorts net → AreTold net sink.0 told
    → IsUpdate (known_with net told entries) sink.0 (requests_of (extent_told told sink.0) pieces)
update_of law fit net told entries sink pieces steps are some ports h =
    let at = there_at net steps are sink (node_of net sink.0) refl some in
    let k = known_with net told entries in
    let all = law net sink.0 told entries h in
    record {
      placed = record {
        steps = steps;
        are = are;
        place = at.place;
        node = sink;
        at = at.at;
        is = refl;
      };
      ports = ports;
      known = all;
      fitting = fit k sink.0 pieces
          (known_at k sink.0 (tree_at net steps are at.place sink at.at) all);
    }

-- what is known of its node
pub sink_known : (k : Known) (sink : ℕ) (requests : List Request) → IsUpdate k sink requests
    → IsKnown k sink
sink_known k sink requests u =
    let p = u.placed in
    known_at k sink
    (subst (HasTree k.net) p.is (tree_at k.net p.steps p.are p.place p.node p.at)) u.known

-- what is known by the sites of a network
pub known_is : (s : SitesData) (net : Network) (told : List Told) (entries : List Stored)
    → s.net ≡ net → s.told ≡ told → s.entries ≡ entries → known_in s ≡ known_with net told entries
known_is s net told entries a b c =
    ap (λ n. known_with n s.told s.entries) a ∙ ap (λ t. known_with net t s.entries) b
    ∙ ap (λ e. known_with net told e) c
