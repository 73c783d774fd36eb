-- What an update of a node by its plan gives beside the dataset (VTK User's Guide, the executive: a
-- filter executes again only where no kept output serves the request).
use Rattle.std.specs.Prelude.{◌≡◌, ℕ, ◌++◌, List, length, Option, None, Some, Ok, Err}
use Rattle.std.specs.List.{All}
use Rattle.std.specs.Option.{option_to_list}
use Rattle.viz_dataset.specs.declared.dataset.Dataset.{Dataset}
use Rattle.viz_inform.specs.Informed.{AreTold}
use Rattle.viz_inform.specs.declared.told.Told.{Told}
use Rattle.viz_kept.specs.True.{AreMadeIn, HasStamp}
use Rattle.viz_kept.specs.Whole.{whole_request}
use Rattle.viz_network.specs.Network.{Network}
use Rattle.viz_network.specs.declared.fault.Stop.{Stop}
use Rattle.viz_network.specs.declared.fault.Stop.TheVariants as stop
use Rattle.viz_node_meaning.specs.Scratch.{IsScratch}
use Rattle.viz_parts.specs.declared.request.Request.{Request}
use Rattle.viz_parts.specs.declared.stored.Key.{Key}
use Rattle.viz_parts.specs.declared.stored.Stored.{Stored}
use Rattle.viz_plan.specs.Published.{keys_of, level_by_level, unreleased}
use Rattle.viz_plan.specs.Told.{extent_told, known_with, needs_in}
use Rattle.viz_plan_meaning.specs.Known.{Known}
use Rattle.viz_plan_meaning.specs.Laws.{plan_of, tasks_of, used_of}
use Rattle.viz_plan_meaning.specs.Levels.{AllUnder}
use Rattle.viz_requests.specs.Shapes.{requests_of}
use Rattle.viz_executive.specs.declared.produced.Produced.{Produced}

-- the keys of all made parts: of those that stand for themselves, and of the last where that is the
-- dataset of the update itself
abbrev pub all_keys : List Stored → Option Key → List Key
all_keys made only = keys_of made ++ option_to_list only

-- the dataset is all of what the node of the key gives, under its stamp
pub record IsOnlyUnder (net : Network) (whole : Dataset) (key : Key) : Type 0 where
  pub stamp : HasStamp net key
  pub given : IsScratch net key.node.0 (Ok whole)
  pub all : key.request ≡ whole_request whole

-- so it is under a key, if there is one
abbrev pub IsOnly : Network → Dataset → Option Key → Type 0
IsOnly net whole None = Unit {0}
IsOnly net whole (Some key) = IsOnlyUnder net whole key

-- the kept keys that the plan uses, a part for each of its tasks whose node's parts stay, level by
-- level, and the number of its tasks
pub record IsByPlanOf (k : Known) (sink : ℕ) (requests : List Request) (p : Produced)
    : Type 0 where
  pub used_are : needs_in p.used.items ≡ used_of k sink requests
  pub stamps : All (HasStamp k.net) p.used.items
  pub levels : ℕ
  pub under : AllUnder levels (tasks_of k sink requests)
  pub made_are : needs_in (all_keys p.made.items p.only)
      ≡ unreleased k.net (level_by_level k sink requests levels)
  pub parts : AreMadeIn k.net p.made.items
  pub only : IsOnly k.net p.dataset p.only
  pub number : p.ran ≡ length (plan_of k sink requests)

-- so of an update of a node in so many pieces, by what is told of the network and what is kept
pub record IsByPlan (net : Network) (entries : List Stored) (sink pieces : ℕ) (p : Produced)
    : Type 0 where
  pub told : List Told
  pub are : AreTold net sink told
  pub by : IsByPlanOf (known_with net told entries) sink
      (requests_of (extent_told told sink) pieces) p

-- a stop is the first fault of an evaluation from scratch, unless memory ran out
abbrev pub IsScratchStop : Network → ℕ → Stop → Type 0
IsScratchStop net id (stop.Fault fault) = IsScratch net id (Err fault)
IsScratchStop net id stop.Memory = Unit {0}
