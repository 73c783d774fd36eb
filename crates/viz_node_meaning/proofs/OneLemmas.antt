-- What a node gives is one.
use Rattle.std.proofs.Common.{◌≡◌, Option, None, Some, Result, Ok, Err, sym, ap, subst, ◌∙◌}
use Rattle.viz_network.specs.declared.node.Node.{Node}
use Rattle.viz_network.specs.declared.fault.Fault.{Fault}
use Rattle.viz_network.specs.Cone.{Cone, Tree, none, empty, fed}
use Rattle.viz_node_meaning.specs.Rules.{Inputs, NodeRule, IsOne}
use Rattle.viz_node_meaning.specs.Fold.{at_node, filled, joined, IsMade, AreGiven, IsGiven}

module _ {X : Type 0} (rule : NodeRule X) (one : IsOne rule) where
  made_one : (n : Node) (inputs : Result (Inputs X) Fault) (a b : Result X Fault) → IsMade rule n inputs a → IsMade rule n inputs b → a ≡ b
  made_one n (Err fault) a b p q = p ∙ sym q
  made_one n (Ok inputs) a b p q = p.2 ∙ ap (at_node n) (one n inputs p.0 q.0 p.1 q.1) ∙ sym q.2

  pub given_one : (cone : Cone) (a b : Result (Inputs X) Fault) → AreGiven rule cone a → AreGiven rule cone b → a ≡ b
  given_one none a b p q = p ∙ sym q
  given_one (empty others) a b p q = p.2 ∙ ap (joined (Ok None)) (given_one others p.0 q.0 p.1 q.1) ∙ sym q.2
  given_one (fed n own others) a b p q =
      let inputs = given_one own p.0 q.0 p.3 q.3 in
      let value = made_one n q.0 p.1 q.1 (subst (λ i. IsMade rule n i p.1) inputs p.4) q.4 in
      let rest = given_one others p.2 q.2 p.5 q.5 in
      p.6 ∙ ap (λ v. joined (filled v) p.2) value ∙ ap (joined (filled q.1)) rest ∙ sym q.6

  pub value_one : (t : Option Tree) (a b : Result X Fault) → IsGiven rule t a → IsGiven rule t b → a ≡ b
  value_one None a b p q = absurd p
  value_one (Some t) a b p q =
      let inputs = given_one t.1 p.0 q.0 p.1 q.1 in
      made_one t.0 q.0 a b (subst (λ i. IsMade rule t.0 i a) inputs p.2) q.2
