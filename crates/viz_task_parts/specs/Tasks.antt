-- What the tasks of a plan take, and what they make of it (VTK User's Guide, the executive: the
-- data pass; docs/FORMATS-OF-FILTERS.md, "Exact points").
use Rattle.std.specs.Prelude.{◌≡◌, ℕ, List, Option, Some, Ok}
use Rattle.std.specs.List.{All, Contains}
use Rattle.viz_dataset.specs.declared.dataset.Dataset.{Dataset}
use Rattle.viz_network.specs.Cone.{Cone, cone_of}
use Rattle.viz_network.specs.Network.{Network}
use Rattle.viz_network.specs.declared.fault.Cause.{Cause}
use Rattle.viz_network.specs.declared.node.Node.{Node}
use Rattle.viz_node_meaning.specs.Scratch.{IsScratch}
use Rattle.viz_node_parts.specs.Made.{HasCause, MakesPart}
use Rattle.viz_node_parts.specs.Taken.{TakesParts}
use Rattle.viz_parts.specs.declared.request.Part.{Part}
use Rattle.viz_parts.specs.declared.request.Request.{Request}
use Rattle.viz_plan_law.specs.Cutting.{IsExactPart}
use Rattle.viz_plan_law.specs.Fitting.{AllKnown, IsRequestTo}
use Rattle.viz_plan_law.specs.Ports.{HaveOwnPorts}
use Rattle.viz_plan_meaning.specs.Evaluation.{IsFed}
use Rattle.viz_plan_meaning.specs.Known.{Known, asked_at, ports_extent}
use Rattle.viz_plan_meaning.specs.Laws.{IsPlaced, inputs_of, plan_of}
use Rattle.viz_plan_meaning.specs.Networks.{head_of, ways_to}
use Rattle.viz_plan_truth.specs.Faults.{IsFaultyFoot}
use Rattle.viz_plan_truth.specs.Truth.{IsTaskPart}

-- an update of a node by requests that can be made to it, where the nodes are known as told
pub record IsUpdate (k : Known) (sink : ℕ) (requests : List Request) : Type 0 where
  pub placed : IsPlaced k.net sink
  pub ports : HaveOwnPorts k.net
  pub known : AllKnown k sink
  pub fitting : All (IsRequestTo k sink) requests

-- a task of its plan, at a node with what feeds it
pub record IsTaskAt (k : Known) (sink : ℕ) (requests : List Request) (task : ℕ × Request)
    (n : Node) (cone : Cone) : Type 0 where
  pub planned : Contains (plan_of k sink requests) task
  pub is : cone_of k.net task.0 ≡ Some (n, cone)

-- the ports have parts of what feeds them by the exact rule, for what the task asks for
pub record HasParts (k : Known) (task : ℕ × Request) (parts : List (Option Part)) : Type 0 where
  pub fed : IsFed (λ id request part. IsExactPart (cone_of k.net id) request part)
      (asked_at k task.0 task.1) (inputs_of k.net task.0) parts

-- those are parts that the task takes
abbrev pub TasksTake : Type 0
TasksTake =
    (k : Known) (sink : ℕ) (requests : List Request) (task : ℕ × Request) (n : Node) (cone : Cone)
    (parts : List (Option Part))
    → IsUpdate k sink requests → IsTaskAt k sink requests task n cone → HasParts k task parts
    → TakesParts n.settings (ports_extent k cone) task.1 parts

-- what the node makes of them is a part that the task gives
abbrev pub TasksMake : Type 0
TasksMake =
    (k : Known) (sink : ℕ) (requests : List Request) (task : ℕ × Request) (n : Node) (cone : Cone)
    (parts : List (Option Part)) (part : Part)
    → IsUpdate k sink requests → IsTaskAt k sink requests task n cone → HasParts k task parts
    → MakesPart n.settings n.file (ports_extent k cone) task.1 parts part
    → IsTaskPart k.net task.0 task.1 part

-- where the node has a cause to make none of them, its file isn't read, or a section of what feeds
-- it by the exact rule has a wide number: the node of the plan then gives no dataset
abbrev pub TasksFail : Type 0
TasksFail =
    (k : Known) (sink : ℕ) (requests : List Request) (task : ℕ × Request) (n : Node) (cone : Cone)
    (parts : List (Option Part)) (cause : Cause)
    → IsUpdate k sink requests → IsTaskAt k sink requests task n cone → HasParts k task parts
    → HasCause n.settings n.file parts cause → IsFaultyFoot (cone_of k.net task.0) task.1

-- parts of the node that requests to another reach are parts of that one: a writer hands on what
-- feeds it
abbrev pub PartsArePassed : Type 0
PartsArePassed =
    (net : Network) (sink reached : ℕ) (request : Request) (part : Part)
    → IsPlaced net sink → HaveOwnPorts net → head_of (ways_to net sink) ≡ Some reached
    → IsExactPart (cone_of net reached) request part → IsExactPart (cone_of net sink) request part

-- what a node gives from scratch the node gives that requests to it reach: a writer gives what
-- feeds it
abbrev pub DatasetsArePassed : Type 0
DatasetsArePassed =
    (net : Network) (sink reached : ℕ) (whole : Dataset)
    → IsPlaced net sink → HaveOwnPorts net → IsScratch net sink (Ok whole)
    → head_of (ways_to net sink) ≡ Some reached → IsScratch net reached (Ok whole)
