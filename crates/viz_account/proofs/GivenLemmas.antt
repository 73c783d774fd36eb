-- What feeds the first port of a node that gives something.
use Rattle.std.proofs.Common.{◌≡◌, ◌∷◌, Some, Result, Ok, Err, subst}
use Rattle.viz_dataset.specs.declared.dataset.Dataset.{Dataset}
use Rattle.viz_network.specs.declared.node.Node.{Node}
use Rattle.viz_network.specs.declared.fault.Cause.{Cause}
use Rattle.viz_network.specs.declared.fault.Fault.{Fault}
use Rattle.viz_network.specs.Cone.{Cone, fed}
use Rattle.viz_node_meaning.specs.declared.information.Information.{Information}
use Rattle.viz_node_meaning.specs.Information.{InformationRule}
use Rattle.viz_node_meaning.specs.Data.{DataRule}
use Rattle.viz_node_meaning.specs.Rules.{Inputs, NodeRule}
use Rattle.viz_node_meaning.specs.Fold.{at_node, filled, joined, IsMade, IsGiven}
use Rattle.viz_node_meaning.specs.Scratch.{IsBehind, IsScratchOf}

-- a node gives what its rule makes of what its first port is fed with
pub record IsFed {X : Type 0} (rule : NodeRule X) (node n : Node) (own : Cone) (x : X) : Type 0 where
  pub first : X
  pub rest : Inputs X
  pub given : IsGiven rule (Some (n, own)) (Ok first)
  pub made : rule node (Some first ∷ rest) (Ok x)

module _ {X : Type 0} (rule : NodeRule X) (node n : Node) (own others : Cone) (x : X) where
  -- what the rule makes is no fault
  own_made : (inputs : Inputs X) (value : Result X Cause) → rule node inputs value → Ok x ≡ at_node node value → rule node inputs (Ok x)
  own_made inputs (Ok y) made is = subst (λ z. rule node inputs (Ok z)) (let e : y ≡ x = cc in e) made
  own_made inputs (Err cause) made is = let bad : ⊥ = cc in absurd bad

  fed_made : (inputs : Result (Inputs X) Fault) (value : Result X Fault) (rest : Result (Inputs X) Fault)
      → IsGiven rule (Some (n, own)) value → inputs ≡ joined (filled value) rest → IsMade rule node inputs (Ok x) → IsFed rule node n own x
  fed_made inputs (Err fault) rest given is made =
      let here : IsMade rule node (Err fault) (Ok x) = subst (λ i. IsMade rule node i (Ok x)) is made in
      let bad : ⊥ = cc in absurd bad
  fed_made inputs (Ok y) (Err fault) given is made =
      let here : IsMade rule node (Err fault) (Ok x) = subst (λ i. IsMade rule node i (Ok x)) is made in
      let bad : ⊥ = cc in absurd bad
  fed_made inputs (Ok y) (Ok ys) given is made =
      let here : IsMade rule node (Ok (Some y ∷ ys)) (Ok x) = subst (λ i. IsMade rule node i (Ok x)) is made in
      record { first = y; rest = ys; given = given; made = own_made (Some y ∷ ys) here.0 here.1 here.2 }

  pub first_fed : IsGiven rule (Some (node, fed n own others)) (Ok x) → IsFed rule node n own x
  first_fed g =
      let ports = g.1 in
      fed_made g.0 ports.1 ports.2 (ports.0, ports.3, ports.4) ports.6 g.2

-- what feeds the first port of a node that gives a dataset gives one, and the node's is made of it
pub scratch_fed : (node n : Node) (own others : Cone) (d : Dataset) → IsScratchOf (Some (node, fed n own others)) (Ok d)
    → (e : Dataset) × (rest : Inputs Dataset) × IsScratchOf (Some (n, own)) (Ok e) × DataRule node (Some e ∷ rest) (Ok d)
scratch_fed node n own others d s = told s.0 s.1 s.2
  where
    told : (i : Result Information Fault) → IsGiven InformationRule (Some (node, fed n own others)) i → IsBehind i (Some (node, fed n own others)) (Ok d)
        → (e : Dataset) × (rest : Inputs Dataset) × IsScratchOf (Some (n, own)) (Ok e) × DataRule node (Some e ∷ rest) (Ok d)
    told (Err fault) given behind = let bad : ⊥ = cc in absurd bad
    told (Ok i) given behind =
        let known = first_fed InformationRule node n own others i given in
        let made = first_fed DataRule node n own others d behind in
        (made.first, made.rest, (Ok known.first, known.given, made.given), made.made)
