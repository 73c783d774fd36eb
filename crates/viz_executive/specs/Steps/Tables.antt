-- Parts that are there, by the places of the steps of their nodes. Only private contracts and
-- proofs speak of it.
use Rattle.std.specs.Prelude.{◌≡◌, ℕ, true, List, slice_get, Option, None, Some}
use Rattle.std.specs.List.{All, AllZip, Contains}
use Rattle.std.specs.Global.{Vec}
use Rattle.viz_base.specs.declared.node.NodeId.{NodeId}
use Rattle.viz_network.specs.Cone.{cone_of}
use Rattle.viz_network.specs.Network.{Network}
use Rattle.viz_parts.specs.declared.request.Part.{Part}
use Rattle.viz_parts.specs.declared.request.Request.{Request}
use Rattle.viz_parts.specs.declared.stored.Stored.{Stored}
use Rattle.viz_plan_law.specs.Cutting.{IsExactPart}
use Rattle.viz_requests.specs.Serving.{serves}

-- the node of a part's key gives it by the exact rule for the key's request
pub record IsExactItem (net : Network) (item : Stored) : Type 0 where
  pub exact : IsExactPart (cone_of net item.key.node.0) item.key.request item.part

-- so each part of a table
pub record AreExact (net : Network) (table : List (Vec Stored)) : Type 0 where
  pub each : All (λ items. All (IsExactItem net) items.items) table

-- an item of a list is of the node, and serves the request
pub record IsFound (items : List Stored) (node : NodeId) (wanted : Request) (item : Stored)
    : Type 0 where
  pub among : Contains items item
  pub of_node : item.key.node ≡ node
  pub serving : serves item.key.request wanted ≡ true

-- a part of the node at a place, by the exact rule
abbrev pub IsPartAt : Network → Request → Option NodeId → Part → Type 0
IsPartAt net request None part = ⊥
IsPartAt net request (Some node) part = IsExactPart (cone_of net node.0) request part

-- a place, if there is one, has such a part of its node
abbrev pub IsFetched : Network → List NodeId → Request → Option ℕ → Option Part → Type 0
IsFetched net order request None None = Unit {0}
IsFetched net order request (Some place) (Some part) =
    IsPartAt net request (slice_get order place) part
IsFetched net order request _ _ = ⊥

-- so each of some places
abbrev pub AreFetched : Network → List NodeId → Request → List (Option ℕ) → List (Option Part)
    → Type 0
AreFetched net order request places parts = AllZip (IsFetched net order request) places parts
