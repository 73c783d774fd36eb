-- Tasks of a level, and what they make. Only private contracts and proofs speak of it.
use Rattle.std.specs.Prelude.{◌≡◌, ℕ, ◌+◌, ◌-◌, ◌<◌, ◌≤◌, Bool, true, false, List, [], ◌∷◌}
use Rattle.std.specs.Prelude.{length, slice_get}
use Rattle.std.specs.Prelude.{Some, Result, IfOk}
use Rattle.std.specs.List.{All, Contains, flat_map}
use Rattle.std.specs.Option.{option_map_or}
use Rattle.std.specs.Global.{Vec}
use Rattle.viz_plan.specs.Sites.{known_in}
use Rattle.viz_kept.specs.True.{HasStamp}
use Rattle.viz_network.specs.Network.{Network, node_of}
use Rattle.viz_node_rules.specs.declared.stop.OwnStop.{OwnStop}
use Rattle.viz_parts.specs.declared.request.Request.{Request}
use Rattle.viz_parts.specs.declared.stored.Key.{Key}
use Rattle.viz_parts.specs.declared.stored.Stored.{Stored}
use Rattle.viz_plan.specs.Told.{needs_in}
use Rattle.viz_plan_meaning.specs.Known.{Known}
use Rattle.viz_plan_meaning.specs.Laws.{plan_of}
use Rattle.viz_plan_truth.specs.Truth.{HasTaskPart, IsTaskPart}
use Rattle.viz_plan.specs.Published.{keys_of, stays, unreleased}
use Rattle.viz_executive.specs.Steps.Grounds.{GroundData}
use Rattle.viz_executive.specs.Steps.Tables.{AreExact}

-- keys of tasks of the plan, under the stamps of their nodes
pub record ArePlanned (k : Known) (sink : ℕ) (requests : List Request) (keys : List Key)
    : Type 0 where
  pub tasks : All (Contains (plan_of k sink requests)) (needs_in keys)
  pub stamps : All (HasStamp k.net) keys

-- a task of a level, whose tasks are numbered from the first on
pub record IsLevelTask (g : GroundData) (table : List (Vec Stored)) (keys : List Key)
    (first task : ℕ) : Type 0 where
  pub exact : AreExact g.sites.net table
  pub planned : ArePlanned (known_in g.sites) g.sink g.requests keys
  pub from : first ≤ task
  pub below : task < first + length keys

-- a part that a task made, under its key
pub record IsTaskItem (net : Network) (item : Stored) : Type 0 where
  pub part : IsTaskPart net item.key.node.0 item.key.request item.part
  pub stamp : HasStamp net item.key

-- the same, under a key that is given
pub record IsItemOf (net : Network) (key : Key) (item : Stored) : Type 0 where
  pub is : IsTaskItem net item
  pub of : item.key ≡ key

-- a task's item is one under its key, if it came out
abbrev pub HasItem : GroundData → List Key → ℕ → ℕ → Result Stored OwnStop → Type 0
HasItem g keys first task item =
    (key : Key) → slice_get keys (task - first) ≡ Some key → IfOk item (IsItemOf g.sites.net key)

-- items of all keys
pub record AreItemsOf (net : Network) (keys : List Key) (items : List Stored) : Type 0 where
  pub keys_are : keys_of items ≡ keys
  pub each : All (IsTaskItem net) items

-- what stands after some tasks: parts of a table, and those of nodes that aren't given up
pub record IsDone (net : Network) (done : List (ℕ × Request)) (table : List (Vec Stored))
    (made : List Stored) : Type 0 where
  pub exact : AreExact net table
  pub each : All (HasTaskPart net) done
  pub made_are : needs_in (keys_of made) ≡ unreleased net done
  pub items : All (IsTaskItem net) made

-- the needs of all levels, one after the other
abbrev pub all_needs : List (Vec Key) → List (ℕ × Request)
all_needs levels = flat_map (λ keys. needs_in keys.items) levels

-- whether a node's parts stay after an update
abbrev pub is_staying : Network → ℕ → Bool
is_staying net id = option_map_or stays (node_of net id) false

-- a part that stays, as the one of a list
abbrev pub staying : Bool → Stored → List Stored
staying true item = item ∷ []
staying false item = []
