-- What a plan goes by: a network, what is told of its nodes, and what is kept (VTK User's Guide,
-- the executive: the information pass and the request pass).
use Rattle.std.specs.Prelude.{◌≡◌, ℕ, nat_eq, cond, List, [], ◌∷◌, length, map, Option, None, Some}
use Rattle.std.specs.List.{range_with_len}
use Rattle.viz_extent.specs.Extent.{Bounds}
use Rattle.viz_network.specs.Network.{Network}
use Rattle.viz_node_meaning.specs.declared.information.Information.{Information}
use Rattle.viz_node_meaning.specs.declared.information.Information.TheVariants.{OfImage, OfMesh}
use Rattle.viz_parts.specs.declared.request.Request.{Request}
use Rattle.viz_parts.specs.declared.stored.Key.{Key}
use Rattle.viz_parts.specs.declared.stored.Stored.{Stored}
use Rattle.viz_plan_meaning.specs.Known.{Known}
use Rattle.viz_plan_meaning.specs.Laws.{tasks_of}
use Rattle.viz_plan_meaning.specs.Levels.{AllUnder, at_level, needs_of}
use Rattle.viz_inform.specs.declared.told.Told.{Told}

-- the extent of an image; none of a mesh
abbrev pub extent_of : Information → Option Bounds
extent_of (OfImage g) = Some g.extent
extent_of OfMesh = None

-- the extent that is told of a node's image
abbrev pub extent_told : List Told → ℕ → Option Bounds
extent_told [] id = None
extent_told (t ∷ told) id =
    cond (nat_eq t.node.0 id) (extent_of t.information) (extent_told told id)

-- what is known by all of it
abbrev pub known_with : Network → List Told → List Stored → Known
known_with net told entries = record { net = net; extent = extent_told told; entries = entries }

-- the requests at nodes of keys
abbrev pub needs_in : List Key → List (ℕ × Request)
needs_in keys = map (λ k. (k.node.0, k.request)) keys

-- level by level, the keys of the plan of requests to a node, up to the highest level
pub record AreLevelsOf (k : Known) (sink : ℕ) (requests : List Request)
    (levels : List (List (ℕ × Request))) : Type 0 where
  pub each : levels ≡ map (λ level. needs_of (at_level level (tasks_of k sink requests)))
      (range_with_len 0 (length levels))
  pub under : AllUnder (length levels) (tasks_of k sink requests)
