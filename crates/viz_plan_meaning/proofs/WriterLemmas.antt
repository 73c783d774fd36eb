-- The node that requests to a node reach.
use Rattle.std.proofs.Common.{◌≡◌, ℕ, Bool, true, false, List, Option, None, Some, slice_get, refl, sym, ap, subst, ◌∙◌}
use Rattle.viz_base.specs.declared.node.NodeId.{NodeId}
use Rattle.viz_network.specs.declared.steps.Step.{Step}
use Rattle.viz_network.specs.Network.{Network}
use Rattle.viz_network.specs.Cone.{Tree, none as no_port, port, cone_of}
use Rattle.viz_network.specs.Step.{nodes_of, AreSteps}
use Rattle.viz_plan_meaning.specs.Plan.{Upstream, none, empty, fed}
use Rattle.viz_plan_meaning.specs.Steps.Visits.{IsOne}
use Rattle.viz_plan_meaning.specs.Networks.{passes, passed, way_of, ways, ways_at, ways_to, task_at, head_of, reached as reached_by}
use Rattle.viz_plan_meaning.proofs.NetworkLemmas.{sink_stands}

module _ (net : Network) where
  -- the node with tasks, as one port; nothing where there is none
  abbrev reached : Option ℕ → Upstream
  reached o = reached_by net o

  passed_is : (own : Upstream) → IsOne (ways_at net) (passed own none) → passed own none ≡ reached (head_of (passed own none))
  passed_is none o = refl
  passed_is (empty c) o = refl
  passed_is (fed m own c) o = ap (λ d. fed m d none) o.0

  way_is : (b : Bool) (id : ℕ) (own : Upstream) → IsOne (ways_at net) (way_of b id own none) → way_of b id own none ≡ reached (head_of (way_of b id own none))
  way_is true id own o = passed_is own o
  way_is false id own o = ap (λ d. fed id d none) o.0

  tree_is : (t : Option Tree) → IsOne (ways_at net) (ways (port t no_port)) → ways (port t no_port) ≡ reached (head_of (ways (port t no_port)))
  tree_is None o = refl
  tree_is (Some t) o = way_is (passes t.0.settings) t.0.id.0 (ways t.1) o

  -- requests to a node, also to a writer, are those to the node with tasks that they reach
  pub sink_reaches : (steps : List Step) → AreSteps net steps → (k : ℕ) (x : NodeId) → slice_get (nodes_of steps) k ≡ Some x → ways_to net x.0 ≡ reached (head_of (ways_to net x.0))
  sink_reaches steps are k x at = tree_is (cone_of net x.0) (sink_stands net steps are (λ i. Unit {0}) (λ n j y a b c. tt) k x at).0
