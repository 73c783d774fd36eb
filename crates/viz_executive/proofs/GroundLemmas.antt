-- What an update goes by, at the places of steps.
use Rattle.std.proofs.Common.{◌≡◌, ℕ, zero, suc, List, [], ◌∷◌, Option, None, Some, slice_get, sym, subst, ◌∙◌, ap}
use Rattle.viz_base.specs.declared.node.NodeId.{NodeId}
use Rattle.viz_network.specs.Network.{Network}
use Rattle.viz_network.specs.Step.{nodes_of}
use Rattle.viz_network.specs.declared.steps.Step.{Step}
use Rattle.viz_plan_meaning.specs.Networks.{head_of, ways_at, ways_to}
use Rattle.viz_plan_meaning.specs.Plan.{heads}
use Rattle.viz_plan_walk.specs.TaskSteps.{AreSourced, AreTasks}

-- the node of a step
pub node_at : (steps : List Step) (p : ℕ) (s : Step) → slice_get steps p ≡ Some s
    → slice_get (nodes_of steps) p ≡ Some s.node
node_at [] p s e = let bad : ⊥ = cc in absurd bad
node_at (t ∷ steps) zero s e = let same : t ≡ s = cc in ap (λ (s : Step). Some s.node) same
node_at (t ∷ steps) (suc p) s e = node_at steps p s e

some_same : (a b : NodeId) → Some a ≡ Some b → a ≡ b
some_same a b e = cc

module _ (net : Network) (order : List NodeId) (tasks : List Step) (sources : List (Option ℕ))
    (past : AreTasks net order tasks sources) where
  -- the places of what feeds the node at a place
  pub sourced : (place : ℕ) (step : Step) (node : NodeId) → slice_get order place ≡ Some node
      → slice_get tasks place ≡ Some step
      → AreSourced order place (heads (ways_at net node.0)) step.inputs
  sourced place step node at is =
      let same = some_same step.node node
      (sym (node_at tasks place step is) ∙ ap (λ o. slice_get o place) past.nodes ∙ at) in
      subst (λ n. AreSourced order place (heads (ways_at net n.0)) step.inputs) same
      (past.each place step is)

  -- the node that requests to another reach
  reached_at : (bound : ℕ) (h : Option ℕ) (place : ℕ) (node : NodeId)
      → AreSourced order bound (h ∷ []) (Some place ∷ []) → slice_get order place ≡ Some node
      → h ≡ Some node.0
  reached_at bound None place node s at = absurd s
  reached_at bound (Some id) place node s at =
      let same = some_same s.0.node node (sym s.0.there ∙ at) in
      ap Some (sym s.0.is ∙ ap (λ (n : NodeId). n.0) same)

  pub reaches : (at_sink place : ℕ) (sink node : NodeId) → slice_get order at_sink ≡ Some sink
      → slice_get sources at_sink ≡ Some (Some place) → slice_get order place ≡ Some node
      → head_of (ways_to net sink.0) ≡ Some node.0
  reaches at_sink place sink node at is there =
      reached_at (suc at_sink) (head_of (ways_to net sink.0)) place node
      (past.own at_sink sink (Some place) at is) there
