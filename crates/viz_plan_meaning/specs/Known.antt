-- What is known of the nodes of a network and what is kept of them, and how requests go upstream by
-- it (VTK User's Guide, the executive: the request pass).
use Rattle.std.specs.Prelude.{◌≡◌, ℕ, nat_eq, Bool, false, ◌&&◌, List, find, Option, None, Some}
use Rattle.std.specs.Option.{option_map, option_map_or}
use Rattle.viz_base.specs.declared.node.NodeId.{NodeId}
use Rattle.viz_extent.specs.Extent.{Bounds}
use Rattle.viz_network.specs.declared.node.Node.{Node}
use Rattle.viz_network.specs.Cone.{Cone, Tree, none, empty, fed, cone_of, stamp_of}
use Rattle.viz_network.specs.Network.{Network}
use Rattle.viz_parts.specs.declared.request.Request.{Request}
use Rattle.viz_parts.specs.declared.request.Part.{Part}
use Rattle.viz_parts.specs.declared.stored.Stored.{Stored}
use Rattle.viz_requests.specs.Serving.{serves}
use Rattle.viz_requests.specs.Upstream.{widened, asked}

-- a network, the extent of each node's image, none of a mesh, and the kept parts, in the cache's
-- order
pub record Known : Type 0 where
  pub net : Network
  pub extent : ℕ → Option Bounds
  pub entries : List Stored

-- the extent at a node's ports: that of the first node that feeds one
abbrev pub ports_extent : Known → Cone → Option Bounds
ports_extent k none = None
ports_extent k (empty others) = ports_extent k others
ports_extent k (fed n own others) = k.extent n.id.0

-- what the node at the foot of a cone makes for a request, and what it asks its inputs for
abbrev pub tree_widened : Known → Option Tree → Request → Request
tree_widened k None request = request
tree_widened k (Some t) request = widened t.0.settings (k.extent t.0.id.0) request

abbrev pub tree_asked : Known → Option Tree → Request → Request
tree_asked k None request = request
tree_asked k (Some t) request = asked t.0.settings (ports_extent k t.1) request

-- what a node makes for a request
abbrev pub widened_at : Known → ℕ → Request → Request
widened_at k id request = tree_widened k (cone_of k.net id) request

-- what it asks its inputs for
abbrev pub asked_at : Known → ℕ → Request → Request
asked_at k id request = tree_asked k (cone_of k.net id) request

-- whether a node has this stamp
abbrev pub is_stamp : Option ℕ → ℕ → Bool
is_stamp None stamp = false
is_stamp (Some s) stamp = nat_eq s stamp

-- whether a kept part is of the node with its present stamp, and serves the request
abbrev pub is_serving : Known → ℕ → Request → Stored → Bool
is_serving k id request e =
    nat_eq e.key.node.0 id && is_stamp (stamp_of k.net id) e.key.stamp
    && serves e.key.request request

-- the first that serves a request at a node, with its own request
abbrev pub kept_at : Known → ℕ → Request → Option (Request × Part)
kept_at k id request =
    option_map (λ e. (e.key.request, e.part)) (find (is_serving k id request) k.entries)
