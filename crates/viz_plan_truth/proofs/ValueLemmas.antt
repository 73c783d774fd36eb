-- Where a node gives a value by a rule, so do all nodes upstream of it.
use Rattle.std.proofs.Common.{◌≡◌, Option, None, Some, Result, Ok, Err, refl, sym, subst, ◌∙◌}
use Rattle.viz_network.specs.Cone.{Cone, Tree, none, empty, fed, port}
use Rattle.viz_network.specs.declared.fault.Cause.{Cause}
use Rattle.viz_network.specs.declared.fault.Fault.{Fault}
use Rattle.viz_network.specs.declared.node.Node.{Node}
use Rattle.viz_node_meaning.specs.Fold.{AreGiven, IsGiven, IsMade, at_node, filled, joined}
use Rattle.viz_node_meaning.specs.Rules.{Inputs, NodeRule}
use Rattle.viz_plan_truth.proofs.NeedLemmas.{AllHave}

module _ {X : Type 0} where
  own_ok : (n : Node) (r : Result X Cause) (x : X) → Ok x ≡ at_node n r → r ≡ Ok x
  own_ok n (Ok y) x e = let same : Ok y ≡ Ok x = cc in same
  own_ok n (Err cause) x e = let bad : ⊥ = cc in absurd bad

  rest_ok : (rest : Result (Inputs X) Fault) (xs : Inputs X) → Ok xs ≡ joined (Ok None) rest
      → (ys : Inputs X) × (rest ≡ Ok ys)
  rest_ok (Ok ys) xs e = (ys, refl)
  rest_ok (Err fault) xs e = let bad : ⊥ = cc in absurd bad

  both_ok : (value : Result X Fault) (rest : Result (Inputs X) Fault) (xs : Inputs X)
      → Ok xs ≡ joined (filled value) rest
      → (x : X) × (ys : Inputs X) × (value ≡ Ok x) × (rest ≡ Ok ys)
  both_ok (Ok x) (Ok ys) xs e = (x, ys, refl, refl)
  both_ok (Ok x) (Err fault) xs e = let bad : ⊥ = cc in absurd bad
  both_ok (Err fault) rest xs e = let bad : ⊥ = cc in absurd bad

  module _ (rule : NodeRule X) where
    pub inputs_ok : (n : Node) (inputs : Result (Inputs X) Fault) (x : X)
        → IsMade rule n inputs (Ok x)
        → (xs : Inputs X) × (inputs ≡ Ok xs) × rule n xs (Ok x)
    inputs_ok n (Ok xs) x m = (xs, refl, subst (rule n xs) (own_ok n m.0 x m.2) m.1)
    inputs_ok n (Err fault) x m = let bad : ⊥ = cc in absurd bad

    -- the node at the foot of a cone gives a value
    pub record HasValue (t : Option Tree) : Type 0 where
      pub value : X
      pub given : IsGiven rule t (Ok value)

    all_values : (cone : Cone) (all : Result (Inputs X) Fault) (xs : Inputs X) → all ≡ Ok xs
        → AreGiven rule cone all → AllHave HasValue cone
    all_values none all xs e g = tt
    all_values (empty others) all xs e g =
        let r = rest_ok g.0 xs (sym e ∙ g.2) in
        all_values others g.0 r.0 r.1 g.1
    all_values (fed n own others) all xs e g =
        let b = both_ok g.1 g.2 xs (sym e ∙ g.6) in
        let m = subst (IsMade rule n g.0) b.2 g.4 in
        let i = inputs_ok n g.0 b.0 m in (
          record { value = b.0; given = (g.0, g.3, m) },
          all_values own g.0 i.0 i.1 g.3,
          all_values others g.2 b.1 b.3 g.5,
        )

    pub cone_values : (t : Option Tree) (x : X) → IsGiven rule t (Ok x)
        → AllHave HasValue (port t none)
    cone_values None x g = absurd g
    cone_values (Some t) x g =
        let i = inputs_ok t.0 g.0 x g.2 in
        (record { value = x; given = g }, all_values t.1 g.0 i.0 i.1 g.1, tt)
