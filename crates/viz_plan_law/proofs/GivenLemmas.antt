-- What is told of the nodes of a cone, by what is known of them.
use Rattle.std.proofs.Common.{
  ◌≡◌,
  [],
  ◌∷◌,
  Option,
  None,
  Some,
  Result,
  Ok,
  Err,
  refl,
  sym,
  ap,
  subst,
  ◌∙◌,
}
use Rattle.viz_network.specs.Cone.{Cone, Tree, cone_of, empty, fed, none}
use Rattle.viz_network.specs.declared.fault.Cause.{Cause}
use Rattle.viz_network.specs.declared.fault.Fault.{Fault}
use Rattle.viz_network.specs.declared.node.Node.{Node}
use Rattle.viz_node_meaning.proofs.OneLemmas.{value_one}
use Rattle.viz_node_meaning.specs.Fold.{AreGiven, IsGiven, IsMade, at_node, filled, joined}
use Rattle.viz_node_meaning.specs.Information.{InformationRule, IsInformed}
use Rattle.viz_node_meaning.specs.Rules.{Inputs, IsOne}
use Rattle.viz_node_meaning.specs.declared.information.Information.{Information}
use Rattle.viz_plan_meaning.specs.Known.{Known, ports_extent}
use Rattle.viz_requests.specs.Upstream.{FittingCanBeAsked}
use Rattle.viz_plan_law.specs.Fitting.{IsKnown}
use Rattle.viz_plan_law.proofs.ConeLemmas.{AllAt, AllNodes, IsAt}
use Rattle.viz_plan_law.proofs.InformLemmas.{AreDeep, IsDeep, extent_in, informed_deep}
use Rattle.viz_plan_law.proofs.PortLemmas.{AreTold, Asks, asks, deep_ports, told_in}

-- ---- what a value comes of

-- a node that has information, and what it is made of
record IsInformedOf (n : Node) (ports : Result (Inputs Information) Fault)
    (i : Information) : Type 0 where
  inputs : Inputs Information
  are : ports ≡ Ok inputs
  informed : IsInformed n.settings n.file inputs (Ok i)

made_ok : (n : Node) (inputs : Inputs Information) (i : Information)
    (own : Result Information Cause) → InformationRule n inputs own → Ok i ≡ at_node n own
    → IsInformedOf n (Ok inputs) i
made_ok n inputs i (Ok j) m e =
    let same : j ≡ i = cc in
    record {
      inputs = inputs;
      are = refl;
      informed = subst (λ (z : Information). IsInformed n.settings n.file inputs (Ok z)) same m;
    }
made_ok n inputs i (Err cause) m e = let bad : ⊥ = cc in absurd bad

node_made : (n : Node) (ports : Result (Inputs Information) Fault) (i : Information)
    → IsMade InformationRule n ports (Ok i) → IsInformedOf n ports i
node_made n (Ok inputs) i m = made_ok n inputs i m.0 m.1 m.2
node_made n (Err fault) i m = let bad : ⊥ = cc in absurd bad

-- a port with what feeds it, in front of others
record IsJoined (value : Result Information Fault) (rest : Result (Inputs Information) Fault)
    (inputs : Inputs Information) : Type 0 where
  first : Information
  others : Inputs Information
  is : value ≡ Ok first
  are : rest ≡ Ok others
  all : Some first ∷ others ≡ inputs

fed_joined : (value : Result Information Fault) (rest : Result (Inputs Information) Fault)
    (inputs : Inputs Information) → Ok inputs ≡ joined (filled value) rest
    → IsJoined value rest inputs
fed_joined (Ok i) (Ok others) inputs e =
    let same : Some i ∷ others ≡ inputs = cc in
    record { first = i; others = others; is = refl; are = refl; all = same }
fed_joined (Ok i) (Err fault) inputs e = let bad : ⊥ = cc in absurd bad
fed_joined (Err fault) rest inputs e = let bad : ⊥ = cc in absurd bad

-- an empty port in front of others
record IsLeft (rest : Result (Inputs Information) Fault) (inputs : Inputs Information) : Type 0
  where
    others : Inputs Information
    are : rest ≡ Ok others
    all : None ∷ others ≡ inputs

none_joined : (rest : Result (Inputs Information) Fault) (inputs : Inputs Information)
    → Ok inputs ≡ joined (Ok None) rest → IsLeft rest inputs
none_joined (Ok others) inputs e =
    let same : None ∷ others ≡ inputs = cc in
    record { others = others; are = refl; all = same }
none_joined (Err fault) inputs e = let bad : ⊥ = cc in absurd bad

-- ---- images have planes

given_deep : (c : Cone) (all : Result (Inputs Information) Fault) (inputs : Inputs Information)
    → AreGiven InformationRule c all → all ≡ Ok inputs → AreDeep inputs
given_deep none all inputs g e =
    let some : Ok [] ≡ Ok inputs = sym g ∙ e in
    let same : [] ≡ inputs = cc in
    subst AreDeep same tt
given_deep (empty c) all inputs g e =
    let j = none_joined g.0 inputs (sym e ∙ g.2) in
    subst AreDeep j.all (given_deep c g.0 j.others g.1 j.are)
given_deep (fed n own c) all inputs g e =
    let j = fed_joined g.1 g.2 inputs (sym e ∙ g.6) in
    let m = node_made n g.0 j.first (subst (IsMade InformationRule n g.0) j.is g.4) in
    subst AreDeep j.all (
      informed_deep n.settings n.file m.inputs j.first m.informed
          (given_deep own g.0 m.inputs g.3 m.are),
      given_deep c g.2 j.others g.5 j.are,
    )

-- an image that is told of a node has a plane
pub value_deep : (t : Option Tree) (i : Information) → IsGiven InformationRule t (Ok i)
    → IsDeep (extent_in i)
value_deep None i g = absurd g
value_deep (Some t) i g =
    let m = node_made t.0 g.0 i g.2 in
    informed_deep t.0.settings t.0.file m.inputs i m.informed
    (given_deep t.1 g.0 m.inputs g.1 m.are)

-- ---- what is known

module _ (k : Known) (one : IsOne InformationRule) where
  -- what is known of a node's extent is what is told of it at a port
  known_one : (n : Node) (own : Cone) (i : Information) → IsAt k.net n own → IsKnown k n.id.0
      → IsGiven InformationRule (Some (n, own)) (Ok i) → k.extent n.id.0 ≡ extent_in i
  known_one n own i at known g =
      let both = value_one InformationRule one (Some (n, own)) (Ok known.information) (Ok i)
      (subst (λ (t : Option Tree). IsGiven InformationRule t (Ok known.information)) at.cone
      known.given) g in
      let same : known.information ≡ i = cc in
      told_in (k.extent n.id.0) known.information known.extent ∙ ap extent_in same

  all_told : (c : Cone) (all : Result (Inputs Information) Fault) (inputs : Inputs Information)
      → AllAt k.net c → AllNodes (IsKnown k) c → AreGiven InformationRule c all
      → all ≡ Ok inputs → AreTold k c inputs
  all_told none all inputs a n g e =
      let some : Ok [] ≡ Ok inputs = sym g ∙ e in
      let same : [] ≡ inputs = cc in
      subst (AreTold k none) same tt
  all_told (empty c) all inputs a n g e =
      let j = none_joined g.0 inputs (sym e ∙ g.2) in
      subst (AreTold k (empty c)) j.all (all_told c g.0 j.others a n g.1 j.are)
  all_told (fed m own c) all inputs a n g e =
      let j = fed_joined g.1 g.2 inputs (sym e ∙ g.6) in
      let made = subst (IsMade InformationRule m g.0) j.is g.4 in
      subst (AreTold k (fed m own c)) j.all (
        known_one m own j.first a.0 n.0 (g.0, g.3, made),
        all_told c g.2 j.others a.2 n.2 g.5 j.are,
      )

  module _ (fitting : FittingCanBeAsked) where
    -- a node of the network, what it can ask its inputs for, and that their images have planes
    pub record IsFit (n : Node) (own : Cone) : Type 0 where
      pub cone : cone_of k.net n.id.0 ≡ Some (n, own)
      pub asks : Asks k n.settings own (k.extent n.id.0)
      pub deep : IsDeep (ports_extent k own)

    -- so each of a cone
    abbrev pub AllFit : Cone → Type 0
    AllFit none = Unit {0}
    AllFit (empty others) = AllFit others
    AllFit (fed n own others) = IsFit n own × AllFit own × AllFit others

    node_fit : (n : Node) (own : Cone) → IsAt k.net n own → IsKnown k n.id.0 → AllAt k.net own
        → AllNodes (IsKnown k) own → IsFit n own
    node_fit n own at known a ns =
        let i = known.information in
        let g = subst (λ (t : Option Tree). IsGiven InformationRule t (Ok i)) at.cone
        known.given in
        let m = node_made n g.0 i g.2 in
        let told = all_told own g.0 m.inputs a ns g.1 m.are in
        record {
          cone = at.cone;
          asks = asks k fitting n.settings n.file own m.inputs i (k.extent n.id.0) told at.ports
              m.informed (told_in (k.extent n.id.0) i known.extent);
          deep = deep_ports k own m.inputs told (given_deep own g.0 m.inputs g.1 m.are);
        }

    pub all_fit : (c : Cone) → AllAt k.net c → AllNodes (IsKnown k) c → AllFit c
    all_fit none a n = tt
    all_fit (empty c) a n = all_fit c a n
    all_fit (fed m own c) a n =
        (node_fit m own a.0 n.0 a.1 n.1, all_fit own a.1 n.1, all_fit c a.2 n.2)
