-- What an update may publish: the kept keys that its plan uses, and a part for each of its tasks
-- whose node's parts stay, or none where memory ran out (VTK User's Guide, the executive: a filter
-- executes again only where no kept output serves the request).
use Rattle.std.specs.Prelude.{◌≡◌, ℕ, ◌⊎◌, Bool, false, not, List, [], map, filter}
use Rattle.std.specs.List.{All, flat_map, range_with_len}
use Rattle.std.specs.Option.{option_map_or}
use Rattle.viz_inform.specs.Informed.{AreTold}
use Rattle.viz_inform.specs.declared.told.Told.{Told}
use Rattle.viz_kept.specs.True.{AreMadeIn, HasStamp}
use Rattle.viz_network.specs.Network.{Network, node_of}
use Rattle.viz_network.specs.declared.node.Node.{Node}
use Rattle.viz_parts.specs.declared.request.Request.{Request}
use Rattle.viz_parts.specs.declared.stored.Key.{Key}
use Rattle.viz_parts.specs.declared.stored.Stored.{Stored}
use Rattle.viz_plan_meaning.specs.Known.{Known}
use Rattle.viz_plan_meaning.specs.Laws.{tasks_of, used_of}
use Rattle.viz_plan_meaning.specs.Levels.{AllUnder, at_level, needs_of}
use Rattle.viz_requests.specs.Shapes.{requests_of}
use Rattle.viz_plan.specs.Told.{extent_told, known_with, needs_in}

-- a request at a node
abbrev pub need_of : Key → ℕ × Request
need_of key = (key.node.0, key.request)

-- the keys of kept parts
abbrev pub keys_of : List Stored → List Key
keys_of items = map (λ s. s.key) items

-- whether a node's parts stay after an update
abbrev pub stays : Node → Bool
stays n = not n.release

abbrev pub is_unreleased : Network → ℕ × Request → Bool
is_unreleased net need = option_map_or stays (node_of net need.0) false

-- those requests whose nodes' parts stay
abbrev pub unreleased : Network → List (ℕ × Request) → List (ℕ × Request)
unreleased net needs = filter (is_unreleased net) needs

-- the tasks of a plan, level by level, below the level with this number
abbrev pub level_by_level : Known → ℕ → List Request → ℕ → List (ℕ × Request)
level_by_level k sink requests levels =
    flat_map (λ level. needs_of (at_level level (tasks_of k sink requests)))
    (range_with_len 0 levels)

-- a part for each task of a plan whose node's parts stay, level by level
pub record AreOfTasks (k : Known) (sink : ℕ) (requests : List Request) (made : List Stored)
    : Type 0 where
  pub levels : ℕ
  pub under : AllUnder levels (tasks_of k sink requests)
  pub each : needs_in (keys_of made)
      ≡ unreleased k.net (level_by_level k sink requests levels)

-- the kept keys that a plan uses, under their nodes' stamps, and those parts of its tasks, each of
-- which its node gives, or none where memory ran out
pub record AreOfPlanOf (k : Known) (sink : ℕ) (requests : List Request) (used : List Key)
    (made : List Stored) : Type 0 where
  pub used_are : needs_in used ≡ used_of k sink requests
  pub stamps : All (HasStamp k.net) used
  pub made_are : (made ≡ []) ⊎ AreOfTasks k sink requests made
  pub parts : AreMadeIn k.net made

-- what an update of a node in so many pieces may publish, by what is told of the network and what
-- is kept
pub record AreOfPlan (net : Network) (entries : List Stored) (sink pieces : ℕ) (used : List Key)
    (made : List Stored) : Type 0 where
  pub told : List Told
  pub are : AreTold net sink told
  pub by : AreOfPlanOf (known_with net told entries) sink
      (requests_of (extent_told told sink) pieces) used made
