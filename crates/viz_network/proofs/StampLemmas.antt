-- A tree stays as it was, or its ports_newest stamp is past.
use Rattle.std.proofs.Common.{◌≡◌, ℕ, zero, suc, ◌<◌, ◌≤◌, max, ◌⊎◌, inl, inr, List, [], ◌∷◌, Option, None, Some, refl, sym, ap, subst, ◌∙◌, arith}
use Rattle.std.proofs.Math.Nat.{le-max_left, le-max_right, max-le}
use Rattle.std.specs.List.{AllByRecursion}
use Rattle.std.specs.Option.{option_map}
use Rattle.viz_base.specs.declared.node.NodeId.{NodeId}
use Rattle.viz_network.specs.declared.node.Node.{Node}
use Rattle.viz_network.specs.Network.{Network, node_of}
use Rattle.viz_network.specs.Cone.{Cone, Tree, port, grow, above, joined, own_stamp, newest}
use Rattle.viz_network.specs.EqualStamps.{IsFed, IsClosed}
use Rattle.viz_network.specs.Steps.Since.{Since}

-- the greatest stamp of what feeds the ports
abbrev pub ports_newest : Cone → ℕ
ports_newest = joined max 0 own_stamp

-- no stamp is past p
abbrev pub StampsUpTo : ℕ → Network → Type 0
StampsUpTo p net = (x : ℕ) (n : Node) → node_of net x ≡ Some n → n.stamp ≤ p

-- what a port adds is no newer than the ports
port_stamp : (t : Option Tree) (c : Cone) → (newest t ≤ ports_newest (port t c)) × (ports_newest c ≤ ports_newest (port t c))
port_stamp None c = (omega arith, omega arith)
port_stamp (Some t) c = (le-max_left _ _, le-max_right _ _)

module _ (p k : ℕ) (old new : Network) (each : (x : ℕ) (n : Node) → node_of new x ≡ Some n → (above k new x ≡ above k old x) ⊎ (p < newest (above k new x))) where
  ports_same : (inputs : List (Option NodeId)) → AllByRecursion (IsFed new) inputs
      → (grow (above k new) inputs ≡ grow (above k old) inputs) ⊎ (p < ports_newest (grow (above k new) inputs))
  ports_same [] h = inl refl
  ports_same (None ∷ inputs) h = elim (ports_same inputs h.1) [ inl e ↦ inl (ap Cone.empty e) | inr l ↦ inr l ]
  ports_same (Some id ∷ inputs) h =
      let s = port_stamp (above k new id.0) (grow (above k new) inputs) in
      elim (each id.0 h.0.0 h.0.1) [
        | inl e ↦ elim (ports_same inputs h.1) [
          | inl f ↦ inl (ap (λ t. port t (grow (above k new) inputs)) e ∙ ap (port (above k old id.0)) f)
          | inr l ↦ inr (omega (arith, l, s.1))
        ]
        | inr l ↦ inr (omega (arith, l, s.0))
      ]

-- a tree is as it was, or its ports_newest stamp is past p
pub same_or_newer : (p : ℕ) (old new : Network) → Since p old new → IsClosed new → (k x : ℕ) (n : Node) → node_of new x ≡ Some n
    → (above k new x ≡ above k old x) ⊎ (p < newest (above k new x))
same_or_newer p old new since closed zero x n h = inl refl
same_or_newer p old new since closed (suc k) x n h =
    let tree : Network → Node → Tree = λ net node. (node, grow (above k net) node.inputs) in
    let now : above (suc k) new x ≡ Some (tree new n) = ap (option_map (tree new)) h in
    let newer : p < max n.stamp (ports_newest (grow (above k new) n.inputs)) → (above (suc k) new x ≡ above (suc k) old x) ⊎ (p < newest (above (suc k) new x)) =
    λ l. inr (subst (λ t. p < newest t) (sym now) l) in
    elim (since x n h) [
      | inl was ↦ elim (ports_same p k old new (same_or_newer p old new since closed k) n.inputs (closed x n h)) [
        | inl e ↦ inl (now ∙ ap (λ c. Some (n, c)) e ∙ sym (ap (option_map (tree old)) was))
        | inr l ↦ newer (omega (arith, l, le-max_right n.stamp (ports_newest (grow (above k new) n.inputs))))
      ]
      | inr l ↦ newer (omega (arith, l, le-max_left n.stamp (ports_newest (grow (above k new) n.inputs))))
    ]

-- no tree is newer than the network
ports_up_to : (p k : ℕ) (net : Network) → ((x : ℕ) → newest (above k net x) ≤ p) → (inputs : List (Option NodeId)) → ports_newest (grow (above k net) inputs) ≤ p
ports_up_to p k net each [] = omega arith
ports_up_to p k net each (None ∷ inputs) = ports_up_to p k net each inputs
ports_up_to p k net each (Some id ∷ inputs) = by (above k net id.0) (each id.0) (ports_up_to p k net each inputs)
  where
    by : (t : Option Tree) → newest t ≤ p → ports_newest (grow (above k net) inputs) ≤ p → ports_newest (port t (grow (above k net) inputs)) ≤ p
    by None a b = b
    by (Some t) a b = max-le a b

pub up_to : (p : ℕ) (net : Network) → StampsUpTo p net → (k x : ℕ) → newest (above k net x) ≤ p
up_to p net h zero x = omega arith
up_to p net h (suc k) x = by (node_of net x) refl (up_to p net h k)
  where
    by : (m : Option Node) → node_of net x ≡ m → ((y : ℕ) → newest (above k net y) ≤ p) → newest (option_map (λ node. (node, grow (above k net) node.inputs)) m) ≤ p
    by None e each = omega arith
    by (Some n) e each = max-le (h x n e) (ports_up_to p k net each n.inputs)

-- equal stamps, equal trees
pub same_tree : (p : ℕ) (old new : Network) → Since p old new → IsClosed new → StampsUpTo p old → (k x : ℕ) (n : Node) → node_of new x ≡ Some n
    → newest (above k new x) ≡ newest (above k old x) → above k new x ≡ above k old x
same_tree p old new since closed bounded k x n h e =
    elim (same_or_newer p old new since closed k x n h) [
      | inl same ↦ same
      | inr l ↦ absurd (omega (arith, l, e, up_to p old bounded k x))
    ]
