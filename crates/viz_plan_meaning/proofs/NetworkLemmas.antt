-- A node of a network has one cone.
use Rattle.std.proofs.Common.{◌≡◌, ℕ, zero, suc, ◌+◌, ◌<◌, ◌≤◌, Bool, true, false, List, [], ◌∷◌, map, slice_get, Option, None, Some, refl, sym, ap, subst, ◌∙◌, arith}
use Rattle.viz_base.specs.declared.node.NodeId.{NodeId}
use Rattle.viz_network.specs.declared.node.Node.{Node}
use Rattle.viz_network.specs.declared.steps.Step.{Step}
use Rattle.viz_network.specs.Network.{Network, node_of}
use Rattle.viz_network.specs.Cone.{Cone, Tree, none, empty, fed, grow, port, cone_of}
use Rattle.viz_network.specs.Step.{nodes_of, AreFed, IsStepOf, AreSteps}
use Rattle.viz_network.proofs.TaleLemmas.{node_id}
use Rattle.viz_plan_meaning.specs.Plan.{Upstream as Ways, none as no_way, empty as no_node, fed as way, AllOf}
use Rattle.viz_plan_meaning.specs.Steps.Visits.{IsOne}
use Rattle.viz_plan_meaning.specs.Networks.{passes, passed, way_of, ways, ways_above, ways_at, ways_to}

-- the step at the place of a node
pub step_at : (steps : List Step) (k : ℕ) (x : NodeId) → slice_get (nodes_of steps) k ≡ Some x → (s : Step) × (slice_get steps k ≡ Some s) × (s.node ≡ x)
step_at [] k x e = let bad : ⊥ = cc in absurd bad
step_at (s ∷ steps) zero x e = (s, refl, (let p : s.node ≡ x = cc in p))
step_at (s ∷ steps) (suc k) x e = step_at steps k x e

module _ (net : Network) (steps : List Step) (are : AreSteps net steps) (Good : ℕ → Type 0)
    (good : (n : Node) (k : ℕ) (x : NodeId) → slice_get (nodes_of steps) k ≡ Some x → node_of net x.0 ≡ Some n → passes n.settings ≡ false → Good x.0) where
  abbrev Stands : Ways → Type 0
  Stands c = IsOne (ways_at net) c × AllOf Good c

  passed_stands : (own others : Ways) → Stands own → Stands others → Stands (passed own others)
  passed_stands no_way others a b = b
  passed_stands (no_node c) others a b = b
  passed_stands (way m own c) others a b = ((a.0.0, a.0.1, b.0), (a.1.0, a.1.1, b.1))

  -- a node in front of others
  fed_stands : (n : Node) (k : ℕ) (x : NodeId) (others : Cone) → slice_get (nodes_of steps) k ≡ Some x → node_of net x.0 ≡ Some n
      → cone_of net x.0 ≡ Some (n, grow (cone_of net) n.inputs)
      → Stands (ways_at net x.0) → Stands (ways others) → Stands (ways (port (cone_of net x.0) others))
  fed_stands n k x others at there cone a b =
      subst (λ t. Stands (ways (port t others))) (sym cone) (by (passes n.settings) refl)
    where
      own : Ways
      own = ways (grow (cone_of net) n.inputs)

      own_is : ways_at net x.0 ≡ ways (grow (cone_of net) n.inputs)
      own_is = ap ways_above cone

      id_is : n.id.0 ≡ x.0
      id_is = node_id net x.0 n there

      inner : Stands (ways (grow (cone_of net) n.inputs))
      inner = subst Stands own_is a

      by : (p : Bool) → passes n.settings ≡ p → Stands (way_of p n.id.0 (ways (grow (cone_of net) n.inputs)) (ways others))
      by true q = passed_stands (ways (grow (cone_of net) n.inputs)) (ways others) inner b
      by false q = (
        (sym own_is ∙ ap (ways_at net) (sym id_is), inner.0, b.0),
        (subst Good (sym id_is) (good n k x at there q), inner.1, b.1),
      )

  -- ports that are fed from places below k
  ports_stand : (k : ℕ) (inputs : List (Option NodeId)) (places : List (Option ℕ)) → AreFed (nodes_of steps) k inputs places
      → ((j : ℕ) (x : NodeId) → j < k → slice_get (nodes_of steps) j ≡ Some x → Stands (ways_at net x.0))
      → Stands (ways (grow (cone_of net) inputs))
  ports_stand k [] [] f below = (tt, tt)
  ports_stand k (None ∷ inputs) (None ∷ places) f below = ports_stand k inputs places f below
  ports_stand k (Some x ∷ inputs) (Some j ∷ places) f below =
      let s = step_at steps j x f.1 in
      let st = are.each j s.0 s.1 in
      fed_stands st.node j x (grow (cone_of net) inputs) f.1
      (subst (λ y. node_of net y.0 ≡ Some st.node) s.2 st.there)
      (subst (λ y. cone_of net y.0 ≡ Some (st.node, grow (cone_of net) st.node.inputs)) s.2 st.cone)
      (below j x f.0 f.1) (ports_stand k inputs places f.2 below)
  ports_stand k [] (p ∷ places) f below = absurd f
  ports_stand k (None ∷ inputs) [] f below = absurd f
  ports_stand k (None ∷ inputs) (Some j ∷ places) f below = absurd f
  ports_stand k (Some x ∷ inputs) [] f below = absurd f
  ports_stand k (Some x ∷ inputs) (None ∷ places) f below = absurd f

  at_stands : (b k : ℕ) (x : NodeId) → k < b → slice_get (nodes_of steps) k ≡ Some x → Stands (ways_at net x.0)
  at_stands zero k x l at = absurd (omega (arith, l))
  at_stands (suc b) k x l at =
      let s = step_at steps k x at in
      let st = are.each k s.0 s.1 in
      subst Stands (sym (ap ways_above (subst (λ y. cone_of net y.0 ≡ Some (st.node, grow (cone_of net) st.node.inputs)) s.2 st.cone)))
      (ports_stand k st.node.inputs s.0.inputs st.fed (λ j y m e. at_stands b j y (omega (arith, l, m)) e))

  -- what feeds the ports of a node stands
  pub node_stands : (k : ℕ) (x : NodeId) → slice_get (nodes_of steps) k ≡ Some x → IsOne (ways_at net) (ways_at net x.0) × AllOf Good (ways_at net x.0)
  node_stands k x at = at_stands (suc k) k x (omega arith) at

  -- so does the node as one port
  pub sink_stands : (k : ℕ) (x : NodeId) → slice_get (nodes_of steps) k ≡ Some x → IsOne (ways_at net) (ways_to net x.0) × AllOf Good (ways_to net x.0)
  sink_stands k x at =
      let s = step_at steps k x at in
      let st = are.each k s.0 s.1 in
      fed_stands st.node k x none at
      (subst (λ y. node_of net y.0 ≡ Some st.node) s.2 st.there)
      (subst (λ y. cone_of net y.0 ≡ Some (st.node, grow (cone_of net) st.node.inputs)) s.2 st.cone)
      (node_stands k x at) (tt, tt)
