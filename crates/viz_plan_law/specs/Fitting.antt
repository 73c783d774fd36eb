-- Tasks of a plan that fit what their nodes make, by what is told of the nodes (VTK User's Guide,
-- the executive: the information pass and the request pass).
use Rattle.std.specs.Prelude.{◌≡◌, ℕ, ◌+◌, ◌<◌, ◌^◌, true, List, Option, None, Some, Ok}
use Rattle.std.specs.List.{All}
use Rattle.viz_extent.specs.Extent.{Bounds}
use Rattle.viz_inform.specs.Informed.{AreTold}
use Rattle.viz_inform.specs.declared.told.Told.{Told}
use Rattle.viz_network.specs.Cone.{Tree, cone_of, has_node, nodes_limit}
use Rattle.viz_network.specs.Network.{Network}
use Rattle.viz_node_meaning.specs.Fold.{IsGiven}
use Rattle.viz_node_meaning.specs.Information.{InformationRule}
use Rattle.viz_node_meaning.specs.declared.information.Information.{Information}
use Rattle.viz_node_meaning.specs.declared.information.Information.TheVariants.{OfImage, OfMesh}
use Rattle.viz_parts.specs.declared.request.Request.{Request}
use Rattle.viz_parts.specs.declared.stored.Stored.{Stored}
use Rattle.viz_parts.specs.declared.request.Request.TheVariants.{Block, Piece}
use Rattle.viz_plan.specs.Told.{known_with}
use Rattle.viz_plan_meaning.specs.Known.{Known, asked_at, ports_extent, widened_at}
use Rattle.viz_plan_meaning.specs.Laws.{IsPlaced, inputs_of, plan_of}
use Rattle.viz_plan_meaning.specs.Networks.{ways_to}
use Rattle.viz_plan_meaning.specs.Plan.{heads}
use Rattle.viz_requests.specs.Shapes.{requests_of}
use Rattle.viz_requests.specs.Upstream.{CanAsk, Fits, HasRoom}
use Rattle.viz_plan_law.specs.Ports.{HaveOwnPorts}

-- ---- what is known

-- the extent is that of the image that is told, none of a mesh
abbrev pub IsExtentTold : Option Bounds → Information → Type 0
IsExtentTold own (OfImage g) = own ≡ Some g.extent
IsExtentTold own OfMesh = own ≡ None

-- what is known of a node's extent is what is told of the node
pub record IsKnown (k : Known) (id : ℕ) : Type 0 where
  pub information : Information
  pub given : IsGiven InformationRule (cone_of k.net id) (Ok information)
  pub extent : IsExtentTold (k.extent id) information

-- so of the node and of all nodes upstream of it
abbrev pub AllKnown : Known → ℕ → Type 0
AllKnown k sink = (id : ℕ) → has_node id (cone_of k.net sink) ≡ true → IsKnown k id

-- what an update is told of its node and of all upstream of it is known so
abbrev pub ToldIsKnown : Type 0
ToldIsKnown =
    (net : Network) (sink : ℕ) (told : List Told) (entries : List Stored) → AreTold net sink told
    → AllKnown (known_with net told entries) sink

-- ---- requests

-- a ghost level more can be counted at each node of a way
abbrev pub HasRoomOnWays : Request → Type 0
HasRoomOnWays (Piece p n ghosts) = ghosts + nodes_limit < 2 ^ 32
HasRoomOnWays (Block block) = Unit {0}

-- the request can be made to the node
pub record IsRequestTo (k : Known) (sink : ℕ) (request : Request) : Type 0 where
  pub fits : Fits (k.extent sink) request
  pub room : HasRoomOnWays request

-- the request, and what is made for it, fits what feeds a port, if anything does
abbrev pub FitsAt : Known → Request → Option ℕ → Type 0
FitsAt k request None = Unit {0}
FitsAt k request (Some id) =
    Fits (k.extent id) request × Fits (k.extent id) (widened_at k id request)

-- what feeds a port, if anything does, is known as told, and all upstream of it
abbrev pub KnownAt : Known → Option ℕ → Type 0
KnownAt k None = Unit {0}
KnownAt k (Some id) = AllKnown k id

-- the inputs of the node at the foot of a cone have what it asks them for
abbrev pub TreeCanAsk : Known → Option Tree → Request → Type 0
TreeCanAsk k None request = ⊥
TreeCanAsk k (Some t) request = CanAsk t.0.settings (ports_extent k t.1) request

-- the request of a task fits its node, and what it asks for fits what feeds the node
pub record IsFittingTask (k : Known) (task : ℕ × Request) : Type 0 where
  pub own : Fits (k.extent task.0) task.1
  pub room : HasRoom task.1
  pub can : TreeCanAsk k (cone_of k.net task.0) task.1
  pub inputs : All (FitsAt k (asked_at k task.0 task.1)) (inputs_of k.net task.0)

-- ---- laws

-- so each task of a plan of requests that can be made
abbrev pub PlansFit : Type 0
PlansFit =
    (k : Known) (sink : ℕ) (requests : List Request) → IsPlaced k.net sink → HaveOwnPorts k.net
    → AllKnown k sink → All (IsRequestTo k sink) requests
    → All (IsFittingTask k) (plan_of k sink requests)

-- each such request fits the node that it reaches
abbrev pub RequestsFit : Type 0
RequestsFit =
    (k : Known) (sink : ℕ) (request : Request) → IsPlaced k.net sink → HaveOwnPorts k.net
    → AllKnown k sink → IsRequestTo k sink request
    → All (FitsAt k request) (heads (ways_to k.net sink))

-- what is asked of a node's inputs for a request that fits the node fits them
abbrev pub NodesAsk : Type 0
NodesAsk =
    (k : Known) (id : ℕ) (request : Request) → IsPlaced k.net id → HaveOwnPorts k.net
    → AllKnown k id → Fits (k.extent id) request
    → All (FitsAt k (asked_at k id request)) (inputs_of k.net id)

-- the node that requests reach, and what feeds its ports, is known as told, where the node is
abbrev pub InputsKnown : Type 0
InputsKnown =
    (k : Known) (id : ℕ) → IsPlaced k.net id → HaveOwnPorts k.net → AllKnown k id
    → All (KnownAt k) (inputs_of k.net id) × All (KnownAt k) (heads (ways_to k.net id))

-- the requests of an update in so many pieces can be made
abbrev pub UpdatesFit : Type 0
UpdatesFit =
    (k : Known) (sink n : ℕ) → IsKnown k sink
    → All (IsRequestTo k sink) (requests_of (k.extent sink) n)
