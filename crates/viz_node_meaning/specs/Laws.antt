-- What a node gives from scratch is one, and depends on its cone alone (VTK User's Guide, "The
-- visualization pipeline").
use Rattle.std.specs.Prelude.{◌≡◌, ◌↔◌, ℕ, List, ◌++◌, Option, Some, Result}
use Rattle.viz_dataset.specs.declared.dataset.Dataset.{Dataset}
use Rattle.viz_network.specs.declared.edit.Edit.{Edit}
use Rattle.viz_network.specs.declared.fault.Fault.{Fault}
use Rattle.viz_network.specs.Cone.{Tree, stamp_of}
use Rattle.viz_network.specs.History.{net_of}
use Rattle.viz_node_meaning.specs.Scratch.{IsScratchOf, IsScratch}

-- equal cones give one dataset, or one fault
abbrev pub ConesGiveOne : Type 0
ConesGiveOne = (t : Option Tree) (a b : Result Dataset Fault) → IsScratchOf t a → IsScratchOf t b
    → a ≡ b

-- a node with equal stamps in the networks of a history and of a longer one gives the same in both
abbrev pub EqualStampsGiveOne : Type 0
EqualStampsGiveOne = (edits more : List Edit) (id stamp : ℕ)
    → stamp_of (net_of edits) id ≡ Some stamp
    → stamp_of (net_of (edits ++ more)) id ≡ Some stamp
    → (r : Result Dataset Fault) → IsScratch (net_of edits) id r
    ↔ IsScratch (net_of (edits ++ more)) id r
