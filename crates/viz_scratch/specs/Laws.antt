-- The file of a node is one (docs/FORMATS-OF-OUTPUT.md, "Written files").
use Rattle.std.specs.Prelude.{◌≡◌, ℕ, List, Result}
use Rattle.viz_network.specs.declared.fault.Fault.{Fault}
use Rattle.viz_network.specs.Network.{Network}
use Rattle.viz_scratch.specs.Written.{IsFileOf}

-- a node of a network has one file, or one fault
abbrev pub FilesAreOne : Type 0
FilesAreOne = (net : Network) (id : ℕ) (a b : Result (List ℕ) Fault) → IsFileOf net id a
    → IsFileOf net id b → a ≡ b
