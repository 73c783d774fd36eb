-- Steps whose inputs lead past writers, and where requests to each step go.
use Rattle.std.specs.Prelude.{◌≡◌, ℕ, suc, ◌<◌, Bool, true, false, List, [], ◌∷◌, length, take}
use Rattle.std.specs.Prelude.{slice_get, Option, None, Some}
use Rattle.viz_base.specs.declared.node.NodeId.{NodeId}
use Rattle.viz_network.specs.declared.steps.Step.{Step}
use Rattle.viz_network.specs.Network.{Network}
use Rattle.viz_network.specs.Step.{nodes_of}
use Rattle.viz_plan_meaning.specs.Plan.{heads}
use Rattle.viz_network.specs.declared.node.Node.{Node}
use Rattle.viz_plan_meaning.specs.Networks.{passes, ways_at, ways_to, head_of}

-- the node at a place
pub record IsAt (order : List NodeId) (k place id : ℕ) : Type 0 where
  pub before : place < k
  pub node : NodeId
  pub there : slice_get order place ≡ Some node
  pub is : node.0 ≡ id

-- each is empty, or the node at a place before k
abbrev pub AreSourced : List NodeId → ℕ → List (Option ℕ) → List (Option ℕ) → Type 0
AreSourced order k [] [] = Unit {0}
AreSourced order k (None ∷ ids) (None ∷ places) = AreSourced order k ids places
AreSourced order k (Some id ∷ ids) (Some place ∷ places) =
    IsAt order k place id × AreSourced order k ids places
AreSourced order k _ _ = ⊥

-- the steps of the nodes with the places of what has tasks at their ports, and the place that
-- requests to each step reach
pub record AreTasks (net : Network) (order : List NodeId) (tasks : List Step)
    (sources : List (Option ℕ)) : Type 0 where
  pub nodes : nodes_of tasks ≡ order
  pub each : (k : ℕ) (t : Step) → slice_get tasks k ≡ Some t
      → AreSourced order k (heads (ways_at net t.node.0)) t.inputs
  pub own : (j : ℕ) (x : NodeId) (s : Option ℕ) → slice_get order j ≡ Some x
      → slice_get sources j ≡ Some s
      → AreSourced order (suc j) (head_of (ways_to net x.0) ∷ []) (s ∷ [])

-- the place that the table has for a place
abbrev pub got : Option (Option ℕ) → Option ℕ
got (Some source) = source
got None = None

abbrev pub told : List (Option ℕ) → Option ℕ → Option ℕ
told sources None = None
told sources (Some place) = got (slice_get sources place)

abbrev pub first : List (Option ℕ) → Option ℕ
first [] = None
first (source ∷ sources) = source

-- where a step's requests go: to its own node, or where its first input's go
abbrev pub source_by : Bool → ℕ → List (Option ℕ) → Option ℕ
source_by true k inputs = first inputs
source_by false k inputs = Some k

abbrev pub source_of : Option Node → ℕ → List (Option ℕ) → Option ℕ
source_of None k inputs = None
source_of (Some n) k inputs = source_by (passes n.settings) k inputs

-- the first k of them, with where the requests of each go
pub record AreFirstTasks (net : Network) (order : List NodeId) (k : ℕ) (tasks : List Step)
    (sources : List (Option ℕ)) : Type 0 where
  pub nodes : nodes_of tasks ≡ take k order
  pub count : length tasks ≡ k
  pub each : (j : ℕ) (t : Step) → slice_get tasks j ≡ Some t
      → AreSourced order j (heads (ways_at net t.node.0)) t.inputs
  pub told_count : length sources ≡ k
  pub own : (j : ℕ) (x : NodeId) (s : Option ℕ) → slice_get order j ≡ Some x
      → slice_get sources j ≡ Some s
      → AreSourced order (suc j) (head_of (ways_to net x.0) ∷ []) (s ∷ [])
