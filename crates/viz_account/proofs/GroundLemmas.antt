-- What feeds the first port of a node, by its inputs.
use Rattle.std.proofs.Common.{◌≡◌, ℕ, true, List, slice_index_or, [], ◌∷◌, Option, None, Some, Ok, Err, refl, sym, ap, subst, ◌∙◌}
use Rattle.viz_base.specs.declared.node.NodeId.{NodeId}
use Rattle.viz_extent.specs.Extent.{Bounds}
use Rattle.viz_dataset.specs.declared.dataset.Dataset.{Dataset}
use Rattle.viz_dataset.specs.declared.dataset.Dataset.TheVariants.{Image, Mesh}
use Rattle.viz_sheet.specs.Sheet.{SheetData}
use Rattle.viz_network.specs.declared.node.Node.{Node}
use Rattle.viz_network.specs.declared.fault.Fault.{Fault}
use Rattle.viz_network.specs.declared.steps.Step.{Step}
use Rattle.viz_network.specs.Network.{Network, node_of, input_of}
use Rattle.viz_network.specs.Cone.{Cone, Tree, port, grow, cone_of}
use Rattle.viz_network.specs.Step.{nodes_of, IsStepOf, AreSteps}
use Rattle.viz_node_meaning.specs.Scratch.{IsScratchOf, IsScratch}
use Rattle.viz_node_meaning.specs.Laws.{ConesGiveOne}
use Rattle.viz_account.specs.Audited.{is_contour, IsFedFirst, StandsOn}
use Rattle.viz_account.specs.Steps.Ground.{GivesImage, IsGround}
use Rattle.viz_account.proofs.StepLemmas.{step_there}

-- what feeds a port gives a dataset
fed_port : (o : Option Tree) (others : Cone) (d : Dataset) → IsScratchOf o (Ok d) → IsFedFirst (port o others) d
fed_port None others d s = absurd s.1
fed_port (Some t) others d s = s

port_fed : (o : Option Tree) (others : Cone) (d : Dataset) → IsFedFirst (port o others) d → IsScratchOf o (Ok d)
port_fed None others d p = absurd p
port_fed (Some t) others d p = p

inputs_fed : (net : Network) (inputs : List (Option NodeId)) (from : NodeId) (d : Dataset) → slice_index_or inputs 0 None ≡ Some from → IsScratch net from.0 (Ok d)
    → IsFedFirst (grow (cone_of net) inputs) d
inputs_fed net [] from d is s = let bad : ⊥ = cc in absurd bad
inputs_fed net (None ∷ inputs) from d is s = let bad : ⊥ = cc in absurd bad
inputs_fed net (Some id ∷ inputs) from d is s =
    let e : from ≡ id = cc in
    fed_port (cone_of net id.0) (grow (cone_of net) inputs) d (subst (λ i. IsScratch net i.0 (Ok d)) e s)

fed_inputs : (net : Network) (inputs : List (Option NodeId)) (d : Dataset) → IsFedFirst (grow (cone_of net) inputs) d
    → (from : NodeId) × (slice_index_or inputs 0 None ≡ Some from) × IsScratch net from.0 (Ok d)
fed_inputs net [] d p = absurd p
fed_inputs net (None ∷ inputs) d p = absurd p
fed_inputs net (Some id ∷ inputs) d p = (id, refl, port_fed (cone_of net id.0) (grow (cone_of net) inputs) d p)

-- the cone of a node that has a step grows from those of its inputs
cone_there : (net : Network) (steps : List Step) (id : NodeId) (node : Node) → AreSteps net steps → node_of net id.0 ≡ Some node
    → cone_of net id.0 ≡ Some (node, grow (cone_of net) node.inputs)
cone_there net steps id node all there =
    let k = all.covers id node there in
    let s = step_there steps k.0 id k.1 in
    let own : IsStepOf net (nodes_of steps) k.0 s.0 = all.each k.0 s.0 s.1 in
    let at : cone_of net id.0 ≡ Some (own.node, grow (cone_of net) own.node.inputs) = subst (λ (i : NodeId). cone_of net i.0 ≡ Some (own.node, grow (cone_of net) own.node.inputs)) s.2 own.cone in
    let same : own.node ≡ node =
    (let there-too : node_of net id.0 ≡ Some own.node = subst (λ (i : NodeId). node_of net i.0 ≡ Some own.node) s.2 own.there in let e : own.node ≡ node = cc in e) in
    at ∙ ap (λ (n : Node). Some (n, grow (cone_of net) n.inputs)) same

module _ (net : Network) (steps : List Step) (id : NodeId) (node : Node) (all : AreSteps net steps) (there : node_of net id.0 ≡ Some node) where
  cone : cone_of net id.0 ≡ Some (node, grow (cone_of net) node.inputs)
  cone = cone_there net steps id node all there

  -- a contour stands on the image that its first input gives
  pub ground_from : (from : NodeId) (r : Option Bounds) → is_contour node.settings ≡ true → input_of node 1 ≡ Some from → GivesImage net from.0 r → IsGround net id.0 r
  ground_from from (Some whole) is first g =
      let image = g.0 in
      let stands = subst (λ o. StandsOn o image) (sym cone) (is, inputs_fed net node.inputs from (Image image) first g.2) in
      (image, g.1, stands, g.3)
  ground_from from None is first g = λ image stands.
      let here = subst (λ o. StandsOn o image) cone stands in
      let fed = fed_inputs net node.inputs (Image image) here.1 in
      let same : fed.0 ≡ from = (let one = sym fed.1 ∙ first in let e : fed.0 ≡ from = cc in e) in
      g image (subst (λ (i : NodeId). IsScratch net i.0 (Ok (Image image))) same fed.2)

-- what a node gives is one
module _ (cones : ConesGiveOne) where
  pub gives_mesh : (net : Network) (id : ℕ) (sheets : List SheetData) → IsScratch net id (Ok (Mesh sheets)) → GivesImage net id None
  gives_mesh net id sheets given image other =
      let same = cones (cone_of net id) (Ok (Mesh sheets)) (Ok (Image image)) given other in
      let bad : ⊥ = cc in bad

  pub gives_fault : (net : Network) (id : ℕ) (f : Fault) → IsScratch net id (Err f) → GivesImage net id None
  gives_fault net id f given image other =
      let same = cones (cone_of net id) (Err f) (Ok (Image image)) given other in
      let bad : ⊥ = cc in bad
