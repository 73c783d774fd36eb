-- The nodes of a cone are those of the network, and only ports of their kinds are fed.
use Rattle.std.proofs.Common.{
  ◌≡◌,
  ℕ,
  zero,
  suc,
  ◌+◌,
  ◌-◌,
  ◌≤◌,
  ◌<◌,
  ◌||◌,
  max,
  true,
  nat_eq,
  List,
  [],
  ◌∷◌,
  Option,
  None,
  Some,
  slice_get,
  refl,
  sym,
  ap,
  subst,
  ◌∙◌,
  arith,
}
use Rattle.std.proofs.lemmas.Bool.{eq-eqb}
use Rattle.std.specs.Option.{option_map}
use Rattle.std.specs.Prelude.{slice_index_or}
use Rattle.viz_base.specs.declared.node.NodeId.{NodeId}
use Rattle.viz_kinds.specs.Kinds.{ports_of}
use Rattle.viz_kinds.specs.Settings.{kind_of}
use Rattle.viz_network.specs.Cone.{
  Cone,
  Tree,
  above,
  cone_of,
  empty,
  fed,
  grow,
  has_node,
  none,
  port,
}
use Rattle.viz_network.specs.Network.{Network, node_of}
use Rattle.viz_network.specs.Step.{AreFed, AreSteps, nodes_of}
use Rattle.viz_network.specs.declared.node.Node.{Node}
use Rattle.viz_network.specs.declared.steps.Step.{Step}
use Rattle.viz_network.proofs.TaleLemmas.{holds, node_id}
use Rattle.viz_plan_meaning.proofs.NetworkLemmas.{step_at}
use Rattle.viz_plan_meaning.proofs.PlanLemmas.{or-left, or-right}
use Rattle.viz_plan_meaning.specs.Laws.{IsPlaced}
use Rattle.viz_plan_law.specs.Ports.{HasOwnPorts, HaveOwnPorts}
use Rattle.viz_plan_law.proofs.EditPortLemmas.{own_node}
use Rattle.viz_plan_law.proofs.PortLemmas.{AreFirst}

-- ---- ports

port_first : (ports : ℕ) (t : Option Tree) (c : Cone) → AreFirst ports c
    → AreFirst (suc ports) (port t c)
port_first ports None c f = f
port_first ports (Some t) c f = f

-- where the places past the first so many are empty, only the first ports are fed
first_fed : (up : ℕ → Option Tree) (ports : ℕ) (inputs : List (Option NodeId))
    → ((place : ℕ) → ports ≤ place → slice_index_or inputs place None ≡ None)
    → AreFirst ports (grow up inputs)
first_fed up ports [] h = tt
first_fed up zero (None ∷ inputs) h =
    first_fed up zero inputs (λ place l. h (suc place) (omega arith))
first_fed up (suc ports) (None ∷ inputs) h =
    first_fed up ports inputs (λ place l. h (suc place) (omega (arith, l)))
first_fed up zero (Some id ∷ inputs) h =
    let nothing : Some id ≡ None = h 0 (omega arith) in
    let bad : ⊥ = cc in
    absurd bad
first_fed up (suc ports) (Some id ∷ inputs) h =
    port_first ports (up id.0) (grow up inputs)
    (first_fed up ports inputs (λ place l. h (suc place) (omega (arith, l))))

own_first : (up : ℕ → Option Tree) (n : Node) → HasOwnPorts n
    → AreFirst (ports_of (kind_of n.settings)) (grow up n.inputs)
own_first up n h =
    first_fed up (ports_of (kind_of n.settings)) n.inputs
    (λ place l.
    let same : place + 1 - 1 ≡ place = omega arith in
    subst (λ (p : ℕ). slice_index_or n.inputs p None ≡ None) same
    (h (place + 1) (omega (arith, l))))

-- ---- cones

-- the ports of the node at the foot
abbrev ports_above : Option Tree → Cone
ports_above None = none
ports_above (Some t) = t.1

module _ (net : Network) where
  -- the cone of a node of the network, of which only ports of its kind are fed
  pub record IsAt (n : Node) (own : Cone) : Type 0 where
    pub cone : cone_of net n.id.0 ≡ Some (n, own)
    pub ports : AreFirst (ports_of (kind_of n.settings)) own

  -- so of each node of a cone
  abbrev pub AllAt : Cone → Type 0
  AllAt none = Unit {0}
  AllAt (empty others) = AllAt others
  AllAt (fed n own others) = IsAt n own × AllAt own × AllAt others

  module _ (steps : List Step) (are : AreSteps net steps) (have : HaveOwnPorts net) where
    -- a node in front of others
    fed_at_place : (n : Node) (x : NodeId) (others : Cone) → node_of net x.0 ≡ Some n
        → cone_of net x.0 ≡ Some (n, grow (cone_of net) n.inputs)
        → AllAt (ports_above (cone_of net x.0)) → AllAt others
        → AllAt (port (cone_of net x.0) others)
    fed_at_place n x others there cone a b =
        subst (λ (t : Option Tree). AllAt (port t others)) (sym cone) (
          record {
            cone = subst (λ (i : ℕ). cone_of net i ≡ Some (n, grow (cone_of net) n.inputs))
                (sym (node_id net x.0 n there)) cone;
            ports = own_first (cone_of net) n (own_node net x.0 n have there);
          },
          subst AllAt (ap ports_above cone) a,
          b,
        )

    -- ports that are fed from places below k
    ports_at : (k : ℕ) (inputs : List (Option NodeId)) (places : List (Option ℕ))
        → AreFed (nodes_of steps) k inputs places
        → ((j : ℕ) (x : NodeId) → j < k → slice_get (nodes_of steps) j ≡ Some x
        → AllAt (ports_above (cone_of net x.0)))
        → AllAt (grow (cone_of net) inputs)
    ports_at k [] [] f below = tt
    ports_at k (None ∷ inputs) (None ∷ places) f below = ports_at k inputs places f below
    ports_at k (Some x ∷ inputs) (Some j ∷ places) f below =
        let s = step_at steps j x f.1 in
        let st = are.each j s.0 s.1 in
        fed_at_place st.node x (grow (cone_of net) inputs)
        (subst (λ (y : NodeId). node_of net y.0 ≡ Some st.node) s.2 st.there)
        (subst
        (λ (y : NodeId). cone_of net y.0 ≡ Some (st.node, grow (cone_of net) st.node.inputs))
        s.2 st.cone)
        (below j x f.0 f.1) (ports_at k inputs places f.2 below)
    ports_at k [] (p ∷ places) f below = absurd f
    ports_at k (None ∷ inputs) [] f below = absurd f
    ports_at k (None ∷ inputs) (Some j ∷ places) f below = absurd f
    ports_at k (Some x ∷ inputs) [] f below = absurd f
    ports_at k (Some x ∷ inputs) (None ∷ places) f below = absurd f

    all_at : (b k : ℕ) (x : NodeId) → k < b → slice_get (nodes_of steps) k ≡ Some x
        → AllAt (ports_above (cone_of net x.0))
    all_at zero k x l at = absurd (omega (arith, l))
    all_at (suc b) k x l at =
        let s = step_at steps k x at in
        let st = are.each k s.0 s.1 in
        subst AllAt
        (sym (ap ports_above
        (subst
        (λ (y : NodeId). cone_of net y.0 ≡ Some (st.node, grow (cone_of net) st.node.inputs))
        s.2 st.cone)))
        (ports_at k st.node.inputs s.0.inputs st.fed
        (λ j y m e. all_at b j y (omega (arith, l, m)) e))

    sink_at : (k : ℕ) (x : NodeId) → slice_get (nodes_of steps) k ≡ Some x
        → AllAt (port (cone_of net x.0) none)
    sink_at k x at =
        let s = step_at steps k x at in
        let st = are.each k s.0 s.1 in
        fed_at_place st.node x none
        (subst (λ (y : NodeId). node_of net y.0 ≡ Some st.node) s.2 st.there)
        (subst
        (λ (y : NodeId). cone_of net y.0 ≡ Some (st.node, grow (cone_of net) st.node.inputs))
        s.2 st.cone)
        (all_at (suc k) k x (omega arith) at) tt

  pub placed_at : (sink : ℕ) → IsPlaced net sink → HaveOwnPorts net
      → AllAt (port (cone_of net sink) none)
  placed_at sink p have =
      subst (λ (i : ℕ). AllAt (port (cone_of net i) none)) p.is
      (sink_at p.steps p.are have p.place p.node p.at)

  foot_of : (id : ℕ) (n : Node) (t : Tree) → node_of net id ≡ Some n
      → Some (n, grow (above 255 net) n.inputs) ≡ Some t → t.0.id.0 ≡ id
  foot_of id n t there e =
      let same : (n, grow (above 255 net) n.inputs) ≡ t = cc in
      ap (λ (z : Tree). z.0.id.0) (sym same) ∙ node_id net id n there

  -- the node at the foot of a cone is the one whose cone it is
  pub foot_is : (id : ℕ) (t : Tree) → cone_of net id ≡ Some t → t.0.id.0 ≡ id
  foot_is id t e = by (node_of net id) refl e
    where
      by : (o : Option Node) → node_of net id ≡ o
          → option_map (λ (n : Node). (n, grow (above 255 net) n.inputs)) o ≡ Some t
          → t.0.id.0 ≡ id
      by None there q = (let bad : ⊥ = cc in absurd bad)
      by (Some n) there q = foot_of id n t there q

-- ---- nodes of a cone

-- all nodes of the cone have the property
abbrev pub AllNodes : (ℕ → Type 0) → Cone → Type 0
AllNodes P none = Unit {0}
AllNodes P (empty others) = AllNodes P others
AllNodes P (fed n own others) = P n.id.0 × AllNodes P own × AllNodes P others

all_nodes : (P : ℕ → Type 0) (c : Cone) → ((id : ℕ) → holds id c ≡ true → P id) → AllNodes P c
all_nodes P none h = tt
all_nodes P (empty c) h = all_nodes P c h
all_nodes P (fed n own c) h = (
  h n.id.0 (or-left _ _ (or-left _ _ (eq-eqb n.id.0 n.id.0 refl))),
  all_nodes P own (λ id q. h id (or-left _ _ (or-right (nat_eq id n.id.0) (holds id own) q))),
  all_nodes P c (λ id q. h id (or-right (nat_eq id n.id.0 || holds id own) (holds id c) q)),
)

pub tree_nodes : (P : ℕ → Type 0) (t : Option Tree) → ((id : ℕ) → has_node id t ≡ true → P id)
    → AllNodes P (port t none)
tree_nodes P None h = tt
tree_nodes P (Some t) h = (
  h t.0.id.0 (or-left _ _ (eq-eqb t.0.id.0 t.0.id.0 refl)),
  all_nodes P t.1 (λ id q. h id (or-right (nat_eq id t.0.id.0) (holds id t.1) q)),
  tt,
)

-- ---- heights

-- how many nodes lie on the longest way
abbrev pub height : Cone → ℕ
height none = 0
height (empty others) = height others
height (fed n own others) = max (height own + 1) (height others)

abbrev tree_height : Option Tree → ℕ
tree_height None = 0
tree_height (Some t) = height t.1 + 1

port_height : (b : ℕ) (t : Option Tree) (c : Cone) → tree_height t ≤ b → height c ≤ b
    → height (port t c) ≤ b
port_height b None c l m = m
port_height b (Some t) c l m = omega (arith, l, m)

grow_height : (up : ℕ → Option Tree) (b : ℕ) → ((id : ℕ) → tree_height (up id) ≤ b)
    → (inputs : List (Option NodeId)) → height (grow up inputs) ≤ b
grow_height up b h [] = omega arith
grow_height up b h (None ∷ inputs) = grow_height up b h inputs
grow_height up b h (Some id ∷ inputs) =
    port_height b (up id.0) (grow up inputs) (h id.0) (grow_height up b h inputs)

above_height : (b : ℕ) (net : Network) (id : ℕ) → tree_height (above b net id) ≤ b
above_height zero net id = omega arith
above_height (suc b) net id = by (node_of net id) (λ x. above_height b net x)
  where
    by : (o : Option Node) → ((x : ℕ) → tree_height (above b net x) ≤ b)
        → tree_height (option_map (λ (n : Node). (n, grow (above b net) n.inputs)) o) ≤ suc b
    by None h = omega arith
    by (Some n) h = (
        let l : height (grow (above b net) n.inputs) ≤ b = grow_height (above b net) b h n.inputs in
        omega (arith, l)
        )

-- at most 256 nodes lie on a way
pub cone_height : (net : Network) (id : ℕ) → height (port (cone_of net id) none) ≤ 256
cone_height net id =
    port_height 256 (cone_of net id) none (above_height 256 net id) (omega arith)
