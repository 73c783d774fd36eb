-- A plan carried out. Only private contracts and proofs speak of it.
use Rattle.std.specs.Prelude.{◌≡◌, ℕ, ◌<◌, List, length, Option, Some, IfSome, Ok}
use Rattle.std.specs.List.{All}
use Rattle.std.specs.Global.{Vec}
use Rattle.viz_dataset.specs.declared.dataset.Dataset.{Dataset}
use Rattle.viz_kept.specs.True.{HasStamp}
use Rattle.viz_kept.specs.Whole.{whole_request}
use Rattle.viz_network.specs.Cone.{cone_of}
use Rattle.viz_network.specs.Network.{Network}
use Rattle.viz_node_division.specs.Exact.{ExactRule}
use Rattle.viz_node_meaning.specs.Fold.{IsGiven}
use Rattle.viz_parts.specs.declared.request.Request.{Request}
use Rattle.viz_parts.specs.declared.stored.Key.{Key}
use Rattle.viz_parts.specs.declared.stored.Stored.{Stored}
use Rattle.viz_plan.specs.Told.{needs_in}
use Rattle.viz_plan_meaning.specs.Known.{Known}
use Rattle.viz_plan_meaning.specs.Networks.{head_of, ways_to}
use Rattle.viz_plan_truth.specs.Truth.{HasTaskPart}
use Rattle.viz_task_parts.specs.Tasks.{IsUpdate}
use Rattle.viz_plan.specs.Published.{keys_of, unreleased}
use Rattle.viz_executive.specs.Produced.{all_keys}
use Rattle.viz_executive.specs.Steps.Grounds.{GroundData}
use Rattle.viz_executive.specs.Steps.Tasks.{ArePlanned, IsTaskItem, all_needs}
use Rattle.viz_executive.specs.declared.carrying.Carried.{Carried}

-- the tasks of each level are of the plan
pub record ArePlannedLevels (k : Known) (sink : ℕ) (requests : List Request)
    (levels : List (Vec Key)) : Type 0 where
  pub each : All (λ keys. ArePlanned k sink requests keys.items) levels

-- a key of the node that requests to the node of the update reach, under its stamp
pub record IsReachedKey (net : Network) (sink : ℕ) (key : Key) : Type 0 where
  pub stamp : HasStamp net key
  pub reached : head_of (ways_to net sink) ≡ Some key.node.0

-- what is left of made parts where the last was taken out, if it was, and its key
pub record IsTakenOut (g : GroundData) (made left : List Stored) (only : Option Key)
    : Type 0 where
  pub keys : all_keys left only ≡ keys_of made
  pub items : All (IsTaskItem g.sites.net) left
  pub key : IfSome only (IsReachedKey g.sites.net g.sink)

-- the key, if there is one, asks for all of the dataset
abbrev pub AsksForAll : Dataset → Option Key → Type 0
AsksForAll whole only = IfSome only (λ key. key.request ≡ whole_request whole)

-- all tasks of levels came out, and the node's parts were put together
pub record IsCarriedOut (k : Known) (sink : ℕ) (requests : List Request)
    (levels : List (Vec Key)) (c : Carried) : Type 0 where
  pub update : IsUpdate k sink requests
  pub some : 0 < length requests
  pub whole : IsGiven ExactRule (cone_of k.net sink) (Ok c.dataset)
  pub number : c.ran ≡ length (all_needs levels)
  pub each : All (HasTaskPart k.net) (all_needs levels)
  pub made_are : needs_in (all_keys c.made.items c.only) ≡ unreleased k.net (all_needs levels)
  pub items : All (IsTaskItem k.net) c.made.items
  pub only : IfSome c.only (IsReachedKey k.net sink)
  pub all : AsksForAll c.dataset c.only
