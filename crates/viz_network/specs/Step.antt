-- All nodes of a network as steps, each behind what feeds it (VTK User's Guide, "The visualization
-- pipeline": the order of execution).
use Rattle.std.specs.Prelude.{◌≡◌, ℕ, ◌<◌, ◌≤◌, List, [], ◌∷◌, length, map, slice_get, Option}
use Rattle.std.specs.Prelude.{None, Some}
use Rattle.viz_base.specs.declared.node.NodeId.{NodeId}
use Rattle.viz_network.specs.declared.node.Node.{Node}
use Rattle.viz_network.specs.declared.steps.Step.{Step}
use Rattle.viz_network.specs.Network.{Network, node_of}
use Rattle.viz_network.specs.Cone.{grow, cone_of}

-- the nodes of steps
abbrev pub nodes_of : List Step → List NodeId
nodes_of steps = map (λ s. s.node) steps

-- each port is empty, or fed by the node at a place before k
abbrev pub AreFed : List NodeId → ℕ → List (Option NodeId) → List (Option ℕ) → Type 0
AreFed order k [] [] = Unit {0}
AreFed order k (None ∷ inputs) (None ∷ places) = AreFed order k inputs places
AreFed order k (Some id ∷ inputs) (Some place ∷ places) = (place < k)
    × (slice_get order place ≡ Some id) × AreFed order k inputs places
AreFed order k _ _ = ⊥

-- the step at place k: a node with the places of what feeds its ports; its cone grows from those
-- of its inputs
pub record IsStepOf (net : Network) (order : List NodeId) (k : ℕ) (s : Step) : Type 0 where
  pub node : Node
  pub there : node_of net s.node.0 ≡ Some node
  pub fed : AreFed order k node.inputs s.inputs
  pub cone : cone_of net s.node.0 ≡ Some (node, grow (cone_of net) node.inputs)

-- a step for each node
pub record AreSteps (net : Network) (steps : List Step) : Type 0 where
  pub each : (k : ℕ) (s : Step) → slice_get steps k ≡ Some s → IsStepOf net (nodes_of steps) k s
  pub covers : (x : NodeId) (n : Node) → node_of net x.0 ≡ Some n → (k : ℕ)
      × (slice_get (nodes_of steps) k ≡ Some x)
  pub few : length steps ≤ 256
