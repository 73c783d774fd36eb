-- A node whose information is told makes a dataset of what feeds it.
use Rattle.std.proofs.Common.{◌≡◌, [], ◌∷◌, None, Some, Result, Ok, Err, refl, subst}
use Rattle.viz_network.specs.Cone.{Cone, empty, fed, none}
use Rattle.viz_network.specs.declared.fault.Cause.{Cause}
use Rattle.viz_network.specs.declared.fault.Fault.{Fault}
use Rattle.viz_network.specs.declared.node.Node.{Node}
use Rattle.viz_node_division.specs.Divided.{Divided, division_of, wholes}
use Rattle.viz_node_division.specs.Laws.{AreDivided, DividedAreExact}
use Rattle.viz_node_meaning.specs.Data.{all_information}
use Rattle.viz_node_meaning.specs.Fold.{AreGiven, IsGiven, IsMade, at_node}
use Rattle.viz_node_meaning.specs.Information.{
  InformationRule,
  IsInformed,
  fed_at,
  information_of,
}
use Rattle.viz_node_meaning.specs.Rules.{Inputs, IsOne}
use Rattle.viz_node_meaning.specs.declared.information.Information.{Information}
use Rattle.viz_node_meaning.proofs.OneLemmas.{given_one}
use Rattle.viz_plan_law.specs.Told.{DatasetsAreTold}
use Rattle.viz_node_gives.specs.Gives.{AreValid, NodesMakeExact}
use Rattle.viz_node_total.proofs.KindLemmas.{IsValidAt}
use Rattle.viz_node_gives.proofs.RowLemmas.{row_made}

-- what is told of the nodes that feed ports is the information of their datasets
are_told : DatasetsAreTold → DividedAreExact → (cone : Cone) (inputs : Inputs Divided)
    → AreDivided cone inputs
    → AreGiven InformationRule cone (Ok (all_information (wholes inputs)))
are_told told exact none [] h = refl
are_told told exact none (x ∷ inputs) h = absurd h
are_told told exact (empty others) [] h = absurd h
are_told told exact (empty others) (None ∷ inputs) h =
    (Ok (all_information (wholes inputs)), are_told told exact others inputs h, refl)
are_told told exact (empty others) (Some d ∷ inputs) h = absurd h
are_told told exact (fed n own others) [] h = absurd h
are_told told exact (fed n own others) (None ∷ inputs) h = absurd h
are_told told exact (fed n own others) (Some d ∷ inputs) h =
    let given = exact (Some (n, own)) d.whole d.division h.0 in
    let g = told (Some (n, own)) d.whole given in (
      g.0,
      Ok (information_of d.whole),
      Ok (all_information (wholes inputs)),
      g.1,
      g.2,
      are_told told exact others inputs h.1,
      refl,
    )

-- what a node is told, it makes of what is told at its ports
own_told : (n : Node) (inputs : Inputs Information) (i : Information)
    (own : Result Information Cause) → InformationRule n inputs own → Ok i ≡ at_node n own
    → IsInformed n.settings n.file inputs (Ok i)
own_told n inputs i (Ok j) m e =
    let same : j ≡ i = cc in
    subst (λ (z : Information). IsInformed n.settings n.file inputs (Ok z)) same m
own_told n inputs i (Err cause) m e = let bad : ⊥ = cc in absurd bad

node_told : IsOne InformationRule → (n : Node) (cone : Cone) (inputs : Inputs Information)
    (i : Information)
    → AreGiven InformationRule cone (Ok inputs)
    → IsGiven InformationRule (Some (n, cone)) (Ok i)
    → IsInformed n.settings n.file inputs (Ok i)
node_told one n cone inputs i are g =
    let same = given_one InformationRule one cone g.0 (Ok inputs) g.1 are in
    let ports : Result (Inputs Information) Fault → Type 0 =
    λ r. IsMade InformationRule n r (Ok i) in
    let m = subst ports same g.2 in
    own_told n inputs i m.0 m.1 m.2

-- valid datasets at all ports, one of them
first_valid : (inputs : Inputs Divided) → AreValid inputs
    → IsValidAt (fed_at 1 (wholes inputs))
first_valid [] h = tt
first_valid (None ∷ inputs) h = tt
first_valid (Some d ∷ inputs) h = h.0

pub nodes_make : IsOne InformationRule → DatasetsAreTold → DividedAreExact → NodesMakeExact
nodes_make one told exact n cone inputs i given divided valid reading =
    let is = node_told one n cone (all_information (wholes inputs)) i
    (are_told told exact cone inputs divided) given in
    let all = wholes inputs in
    let made = row_made n.settings n.file all i (first_valid inputs valid) reading is in (
      record { whole = made.0; division = division_of n.settings inputs made.0 },
      record { exact = made.1; divided = refl },
    )
