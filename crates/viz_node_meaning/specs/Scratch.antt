-- Evaluation from scratch: what a node of a network gives, by recursion over all that lies
-- upstream of it (VTK User's Guide, "The visualization pipeline"; docs/FORMATS-OF-FILTERS.md, "What
-- a node gives").
use Rattle.std.specs.Prelude.{◌≡◌, ℕ, Option, Result, Ok, Err}
use Rattle.viz_dataset.specs.declared.dataset.Dataset.{Dataset}
use Rattle.viz_network.specs.declared.fault.Fault.{Fault}
use Rattle.viz_network.specs.declared.fault.Stop.{Stop}
use Rattle.viz_network.specs.declared.fault.Stop.TheVariants as stop
use Rattle.viz_network.specs.Network.{Network}
use Rattle.viz_network.specs.Cone.{Tree, cone_of}
use Rattle.viz_node_meaning.specs.Fold.{IsGiven}
use Rattle.viz_node_meaning.specs.declared.information.Information.{Information}
use Rattle.viz_node_meaning.specs.Information.{InformationRule}
use Rattle.viz_node_meaning.specs.Data.{DataRule}

-- the first information fault; else what the data give
abbrev pub IsBehind : Result Information Fault → Option Tree → Result Dataset Fault → Type 0
IsBehind (Err fault) t r = r ≡ Err fault
IsBehind (Ok i) t r = IsGiven DataRule t r

-- what the node at the foot of a cone gives: the first information fault, or the first data fault,
-- or its dataset
abbrev pub IsScratchOf : Option Tree → Result Dataset Fault → Type 0
IsScratchOf t r = (i : Result Information Fault) × IsGiven InformationRule t i × IsBehind i t r

-- what a node of a network gives, evaluated from scratch
abbrev pub IsScratch : Network → ℕ → Result Dataset Fault → Type 0
IsScratch net id r = IsScratchOf (cone_of net id) r

-- an answer is the result, unless memory ran out
abbrev pub Answers : {X : Type 0} → (Result X Fault → Type 0) → Result X Stop → Type 0
Answers result (Ok x) = result (Ok x)
Answers result (Err (stop.Fault fault)) = result (Err fault)
Answers result (Err stop.Memory) = Unit {0}
