-- What is known of the nodes of steps, in a table by their places (VTK User's Guide, the executive:
-- the request pass).
use Rattle.std.specs.Prelude.{◌≡◌, ℕ, nat_eq, Bool, ◌&&◌, List, [], ◌∷◌, length, map, filter}
use Rattle.std.specs.Prelude.{slice_get, Option, None, Some}
use Rattle.viz_base.specs.declared.node.NodeId.{NodeId}
use Rattle.viz_extent.specs.Extent.{Bounds}
use Rattle.viz_network.specs.declared.node.Node.{Node}
use Rattle.viz_network.specs.Cone.{Cone, cone_of, stamp_of}
use Rattle.viz_parts.specs.declared.request.Request.{Request}
use Rattle.viz_parts.specs.declared.stored.Stored.{Stored}
use Rattle.viz_plan_meaning.specs.Known.{Known, is_stamp, ports_extent}
use Rattle.viz_network.specs.Network.{Network}
use Rattle.viz_plan.specs.Told.{known_with}
use Rattle.viz_plan.specs.declared.sites.Site.{Site}
use Rattle.viz_inform.specs.declared.told.Told.{Told}

-- whether a kept part is of the node with its stamp
abbrev pub is_present : Option ℕ → ℕ → Stored → Bool
is_present stamp id e = nat_eq e.key.node.0 id && is_stamp stamp e.key.stamp

-- the requests of those
abbrev pub present : Option ℕ → ℕ → List Stored → List Request
present stamp id entries = map (λ e. e.key.request) (filter (is_present stamp id) entries)

-- the extent of the node at a place
abbrev pub extent_at : (ℕ → Option Bounds) → Option NodeId → Option Bounds
extent_at extent None = None
extent_at extent (Some x) = extent x.0

-- the extent at ports that are fed from places: that of the first
abbrev pub first_extent : (ℕ → Option Bounds) → List NodeId → List (Option ℕ) → Option Bounds
first_extent extent order [] = None
first_extent extent order (None ∷ places) = first_extent extent order places
first_extent extent order (Some p ∷ places) = extent_at extent (slice_get order p)

-- what is known of a node
pub record IsSite (k : Known) (id : ℕ) (s : Site) : Type 0 where
  pub node : Node
  pub ports : Cone
  pub cone : cone_of k.net id ≡ Some (node, ports)
  pub settings : s.settings ≡ node.settings
  pub own : s.own ≡ k.extent node.id.0
  pub whole : s.whole ≡ ports_extent k ports
  pub kept : s.kept.items ≡ present (stamp_of k.net id) id k.entries

-- so of each
pub record AreSites (k : Known) (order : List NodeId) (sites : List Site) : Type 0 where
  pub each : (j : ℕ) (x : NodeId) (s : Site) → slice_get order j ≡ Some x
      → slice_get sites j ≡ Some s → IsSite k x.0 s
  pub count : length sites ≡ length order

-- of the first n
pub record AreFirstSites (k : Known) (order : List NodeId) (n : ℕ)
    (sites : List Site) : Type 0 where
  pub each : (j : ℕ) (x : NodeId) (s : Site) → slice_get order j ≡ Some x
      → slice_get sites j ≡ Some s → IsSite k x.0 s
  pub count : length sites ≡ n

-- what contracts see of a table: a network, what is told and kept, and the nodes of the steps
pub record SitesData : Type 0 where
  pub net : Network
  pub told : List Told
  pub entries : List Stored
  pub order : List NodeId

-- what is known by it
abbrev pub known_in : SitesData → Known
known_in s = known_with s.net s.told s.entries
