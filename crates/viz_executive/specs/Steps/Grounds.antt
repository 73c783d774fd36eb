-- What the tasks of an update go by. Only private contracts and proofs speak of it.
use Rattle.std.specs.Prelude.{◌≡◌, ℕ, List, Option, Some, slice_get}
use Rattle.viz_base.specs.declared.node.NodeId.{NodeId}
use Rattle.viz_network.specs.Network.{Network}
use Rattle.viz_network.specs.Step.{AreSteps, nodes_of}
use Rattle.viz_network.specs.declared.steps.Step.{Step}
use Rattle.viz_parts.specs.declared.request.Request.{Request}
use Rattle.viz_plan.specs.Sites.{SitesData, known_in}
use Rattle.viz_plan_meaning.specs.Networks.{head_of, ways_to}
use Rattle.viz_plan_walk.specs.TaskSteps.{AreTasks}
use Rattle.viz_task_parts.specs.Tasks.{IsUpdate}

-- what contracts see: what is told and kept, the nodes of the steps, the node of the update and its
-- requests
pub record GroundData : Type 0 where
  pub sites : SitesData
  pub order : List NodeId
  pub sink : ℕ
  pub requests : List Request

-- steps of the network, with inputs that lead past writers, and requests that can be made
pub record IsGround (net : Network) (s : SitesData) (steps tasks : List Step)
    (sources : List (Option ℕ)) (sink : ℕ) (requests : List Request) : Type 0 where
  pub of_net : s.net ≡ net
  pub of_steps : s.order ≡ nodes_of steps
  pub are : AreSteps net steps
  pub past : AreTasks net (nodes_of steps) tasks sources
  pub update : IsUpdate (known_in s) sink requests

-- the node at a place is the one that requests to the node of the update reach
pub record IsReached (g : GroundData) (place : ℕ) (node : NodeId) : Type 0 where
  pub at : slice_get g.order place ≡ Some node
  pub reached : head_of (ways_to g.sites.net g.sink) ≡ Some node.0
