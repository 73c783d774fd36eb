-- A rule for one node: what it makes of what feeds its ports, or why it makes nothing (VTK User's
-- Guide, "The visualization pipeline").
use Rattle.std.specs.Prelude.{◌≡◌, List, Option, Result}
use Rattle.viz_network.specs.declared.node.Node.{Node}
use Rattle.viz_network.specs.declared.fault.Cause.{Cause}

-- what feeds each port, port 1 first: nothing where a port is empty
abbrev pub Inputs : Type 0 → Type 0
Inputs X = List (Option X)

-- a rule for one node: what it makes of its inputs, or why it makes nothing
abbrev pub NodeRule : Type 0 → Type 1
NodeRule X = Node → Inputs X → Result X Cause → Type 0

-- a rule has at most one result for each node and inputs
abbrev pub IsOne : {X : Type 0} → NodeRule X → Type 0
IsOne {X} rule = (n : Node) (inputs : Inputs X) (a b : Result X Cause) → rule n inputs a
    → rule n inputs b → a ≡ b
