-- What the plan of requests to a node of a network keeps (VTK User's Guide, the executive).
use Rattle.std.specs.Prelude.{◌≡◌, ℕ, true, false, List, [], length, slice_get, Option, Some}
use Rattle.std.specs.Prelude.{Result}
use Rattle.std.specs.List.Sorted.{IsPermutation}
use Rattle.viz_base.specs.declared.node.NodeId.{NodeId}
use Rattle.viz_cache.specs.Keys.{same_request}
use Rattle.viz_network.specs.declared.fault.Fault.{Fault}
use Rattle.viz_network.specs.declared.node.Node.{Node}
use Rattle.viz_network.specs.declared.steps.Step.{Step}
use Rattle.viz_network.specs.Network.{Network, node_of}
use Rattle.viz_network.specs.Step.{nodes_of, AreSteps}
use Rattle.viz_parts.specs.declared.request.Part.{Part}
use Rattle.viz_parts.specs.declared.request.Request.{Request}
use Rattle.viz_requests.specs.Serving.{serves}
use Rattle.viz_plan_meaning.specs.Plan.{heads, plan, used}
use Rattle.viz_plan_meaning.specs.Levels.{Tasks, needs_of, by_level, AreLevels, IsLevelled}
use Rattle.viz_plan_meaning.specs.Levels.{with_levels}
use Rattle.viz_plan_meaning.specs.Networks.{passes, ways_at, ways_to}
use Rattle.viz_plan_meaning.specs.Known.{Known, asked_at, kept_at, widened_at}
use Rattle.viz_plan_meaning.specs.Evaluation.{AllAsked, AllShown, AllTrue, Gives, IsFed, Leads}
use Rattle.viz_plan_meaning.specs.Evaluation.{Produces, Ready, evaluated, keys}

-- what has to be made for requests to a node
abbrev pub plan_of : Known → ℕ → List Request → List (ℕ × Request)
plan_of k sink requests =
    plan serves (kept_at k) (widened_at k) (asked_at k) (ways_to k.net sink) requests

-- the entries that are used for it
abbrev pub used_of : Known → ℕ → List Request → List (ℕ × Request)
used_of k sink requests =
    used same_request (kept_at k) (widened_at k) (asked_at k) (ways_to k.net sink) requests

-- the nodes with tasks that feed a node's ports
abbrev pub inputs_of : Network → ℕ → List (Option ℕ)
inputs_of net id = heads (ways_at net id)

-- the plan's tasks with their levels
abbrev pub tasks_of : Known → ℕ → List Request → Tasks Request
tasks_of k sink requests =
    with_levels serves (kept_at k) (widened_at k) (asked_at k) (inputs_of k.net) []
    (plan_of k sink requests)

-- the tasks level by level
abbrev pub in_levels : Known → ℕ → List Request → Tasks Request
in_levels k sink requests = by_level (length (plan_of k sink requests)) (tasks_of k sink requests)

-- a node of the network that has tasks
pub record HasTasks (net : Network) (id : ℕ) : Type 0 where
  pub node : Node
  pub there : node_of net id ≡ Some node
  pub makes : passes node.settings ≡ false

-- the node is one of a network with steps
pub record IsPlaced (net : Network) (sink : ℕ) : Type 0 where
  pub steps : List Step
  pub are : AreSteps net steps
  pub place : ℕ
  pub node : NodeId
  pub at : slice_get (nodes_of steps) place ≡ Some node
  pub is : node.0 ≡ sink

-- levels as defined, each task above those that it uses; level by level no task is lost, each finds
-- what it asks for, and the requests are met
pub record Stands (k : Known) (sink : ℕ) (requests : List Request) : Type 0 where
  pub tasks : needs_of (tasks_of k sink requests) ≡ plan_of k sink requests
  pub levels : AreLevels serves (kept_at k) (widened_at k) (asked_at k) (inputs_of k.net)
      (tasks_of k sink requests) (tasks_of k sink requests)
  pub below : IsLevelled serves (kept_at k) (widened_at k) (asked_at k) (inputs_of k.net)
      (tasks_of k sink requests) (tasks_of k sink requests)
  pub each : IsPermutation (tasks_of k sink requests) (in_levels k sink requests)
  pub ready : Ready serves (kept_at k) (widened_at k) (asked_at k) (inputs_of k.net)
      (HasTasks k.net) [] (needs_of (in_levels k sink requests))
  pub met : AllAsked serves (kept_at k) (widened_at k) (asked_at k) (inputs_of k.net)
      (HasTasks k.net) (needs_of (in_levels k sink requests)) requests (heads (ways_to k.net sink))

-- so is each plan of a node of a network
abbrev pub PlansStand : Type 0
PlansStand =
    (k : Known) (sink : ℕ) (requests : List Request) → IsPlaced k.net sink → Stands k sink requests

-- ---- evaluation

-- what evaluations of tasks are asked for: true parts are cut to true parts, kept parts are true,
-- and of true parts at its ports a node makes a true part, or faults
pub record IsSound (k : Known) (restrict : Request × Part → Request → Part)
    (run : ℕ → Request → List (Option Part) → Result Part Fault)
    (IsTrue : ℕ → Request → Part → Type 0) (Faults : ℕ → Fault → Type 0) : Type 0 where
  pub cut : (n : ℕ) (kept wanted : Request) (p : Part) → IsTrue n kept p
      → serves kept (widened_at k n wanted) ≡ true → IsTrue n wanted (restrict (kept, p) wanted)
  pub kept : (n : ℕ) (w : Request) (e : Request × Part) → kept_at k n w ≡ Some e → IsTrue n e.0 e.1
  pub made : (n : ℕ) (w : Request) (ps : List (Option Part)) → HasTasks k.net n
      → IsFed IsTrue (asked_at k n w) (inputs_of k.net n) ps → Gives IsTrue Faults n w (run n w ps)

-- what evaluating tasks in an order comes to
abbrev pub evaluation : Known → (Request × Part → Request → Part)
    → (ℕ → Request → List (Option Part) → Result Part Fault) → List (ℕ × Request)
    → Result (List ((ℕ × Request) × Part)) Fault
evaluation k restrict run tasks =
    evaluated serves (kept_at k) (widened_at k) (asked_at k) (inputs_of k.net) restrict run [] tasks

-- evaluated in an order in which each task finds what it asks for before itself, and the requests
-- are met, tasks give true parts, or a node faults
abbrev pub OrdersProduce : Known → (Request × Part → Request → Part)
    → (ℕ → Request → List (Option Part) → Result Part Fault) → (ℕ → Request → Part → Type 0)
    → (ℕ → Fault → Type 0) → Type 0
OrdersProduce k restrict run IsTrue Faults =
    (tasks : List (ℕ × Request)) (requests : List Request) (inputs : List (Option ℕ))
    → Ready serves (kept_at k) (widened_at k) (asked_at k) (inputs_of k.net)
    (HasTasks k.net) [] tasks
    → AllAsked serves (kept_at k) (widened_at k) (asked_at k) (inputs_of k.net)
    (HasTasks k.net) tasks requests inputs
    → Produces serves (kept_at k) (widened_at k) (asked_at k) (inputs_of k.net) restrict run IsTrue
    (HasTasks k.net) Faults tasks requests inputs (evaluation k restrict run tasks)

-- so does the plan, in its own order and level by level
abbrev pub PlansProduce : Known → (Request × Part → Request → Part)
    → (ℕ → Request → List (Option Part) → Result Part Fault) → (ℕ → Request → Part → Type 0)
    → (ℕ → Fault → Type 0) → Type 0
PlansProduce k restrict run IsTrue Faults =
    (sink : ℕ) (requests : List Request) → IsPlaced k.net sink
    → Produces serves (kept_at k) (widened_at k) (asked_at k) (inputs_of k.net) restrict run IsTrue
    (HasTasks k.net) Faults
    (needs_of (in_levels k sink requests)) requests (heads (ways_to k.net sink))
    (evaluation k restrict run (needs_of (in_levels k sink requests)))

-- ---- faults

-- of spoilt nodes nothing is kept, and what a request asks for stems from it
pub record IsSpoiling (k : Known) (Spoilt : ℕ → Type 0)
    (Stems : Request → Request → Type 0) : Type 0 where
  pub unkept : (n : ℕ) (w : Request) (e : Request × Part) → Spoilt n → kept_at k n w ≡ Some e → ⊥
  pub root : (r : Request) → Stems r r
  pub widened : (r q : Request) (n : ℕ) → Stems r q → Stems r (widened_at k n q)
  pub asked : (r q : Request) (n : ℕ) → Stems r q → Stems r (asked_at k n q)
  pub served : (r v w : Request) → Stems r w → serves v w ≡ true → Stems r v

-- where all tasks of a plan came out, each spoilt node that is reached through spoilt ones has a
-- true part for each request
abbrev pub NoFaultHides : Known → (ℕ → Request → Part → Type 0) → (ℕ → Type 0)
    → (Request → Request → Type 0) → Type 0
NoFaultHides k IsTrue Spoilt Stems =
    (sink : ℕ) (requests : List Request) (made : List ((ℕ × Request) × Part)) → AllTrue IsTrue made
    → keys made ≡ plan_of k sink requests
    → (n : ℕ) → Leads Spoilt n (ways_to k.net sink) → AllShown IsTrue Stems n requests
