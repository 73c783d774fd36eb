-- Trees of nodes in an order do not depend on how far they are followed.
use Rattle.std.proofs.Common.{◌≡◌, ℕ, zero, suc, ◌<◌, Bool, true, false, cond, nat_eq, List, [], ◌∷◌, slice_get, Option, None, Some, refl, sym, ap, ◌∙◌, arith}
use Rattle.std.proofs.lemmas.Bool.{eqb-true}
use Rattle.std.specs.List.{AllByRecursion}
use Rattle.std.specs.Option.{option_map}
use Rattle.viz_base.specs.declared.node.NodeId.{NodeId}
use Rattle.viz_network.specs.declared.node.Node.{Node}
use Rattle.viz_network.specs.Network.{Network, node_of}
use Rattle.viz_network.specs.Cone.{Cone, Tree, port, grow, above, joined, total, either}
use Rattle.viz_network.specs.Steps.Order.{IsBefore, IsTale}

module _ (tale : List NodeId) (up down : ℕ → Option Tree) (k : ℕ) (same : (j : ℕ) (x : NodeId) → j < k → slice_get tale j ≡ Some x → up x.0 ≡ down x.0) where
  pub grow_same : (inputs : List (Option NodeId)) → AllByRecursion (IsBefore tale k) inputs → grow up inputs ≡ grow down inputs
  grow_same [] h = refl
  grow_same (None ∷ inputs) h = ap Cone.empty (grow_same inputs h.1)
  grow_same (Some id ∷ inputs) h = ap (λ t. port t (grow up inputs)) (same h.0.0 id h.0.1 h.0.2) ∙ ap (port (down id.0)) (grow_same inputs h.1)

-- a node's tree is whole once it is followed past the node's place
pub whole : (net : Network) (tale : List NodeId) → IsTale net tale → (m n k : ℕ) (x : NodeId) → slice_get tale k ≡ Some x → k < m → k < n → above m net x.0 ≡ above n net x.0
whole net tale t zero n k x at a b = absurd (omega (arith, a))
whole net tale t (suc m) zero k x at a b = absurd (omega (arith, b))
whole net tale t (suc m) (suc n) k x at a b =
    let node = t.each k x at in
    let tree : (ℕ → Option Tree) → Node → Tree = λ up v. (v, grow up v.inputs) in
    let e : grow (above m net) node.0.inputs ≡ grow (above n net) node.0.inputs =
    grow_same tale (above m net) (above n net) k (λ j y l atj. whole net tale t m n j y atj (omega (arith, l, a)) (omega (arith, l, b))) node.0.inputs node.2 in
    ap (option_map (tree (above m net))) node.1 ∙ ap (λ c. Some (node.0, c)) e ∙ sym (ap (option_map (tree (above n net))) node.1)

-- the node that is found has the id that was asked for
pub node_id : (net : Network) (x : ℕ) (n : Node) → node_of net x ≡ Some n → n.id.0 ≡ x
node_id [] x n h = let bad : ⊥ = cc in absurd bad
node_id (e ∷ net) x n h = by (nat_eq x e.1.id.0) refl h (node_id net x n)
  where
    by : (b : Bool) → nat_eq x e.1.id.0 ≡ b → cond b (Some e.1) (node_of net x) ≡ Some n → (node_of net x ≡ Some n → n.id.0 ≡ x) → n.id.0 ≡ x
    by true q p rest =
        let id : Option Node → ℕ = λ o. elim o [ Some z ↦ z.id.0 | None ↦ 0 ] in
        sym (ap id p) ∙ sym (eqb-true x e.1.id.0 q)
    by false q p rest = rest p

-- whether the node with this position feeds the ports
abbrev pub holds : ℕ → Cone → Bool
holds id = joined either false (λ (n : Node). nat_eq id n.id.0)

-- a port adds its own tree
pub joined_port : {X : Type 0} (join : X → X → X) (start : X) (own : Node → X) → ((x : X) → join start x ≡ x) → (t : Option Tree) (c : Cone)
    → joined join start own (port t c) ≡ join (total join start own t) (joined join start own c)
joined_port join start own neutral None c = sym (neutral (joined join start own c))
joined_port join start own neutral (Some t) c = refl
