-- What a node of a network gives from what feeds its ports: a value, or the first fault on the way
-- to it (VTK User's Guide, "The visualization pipeline").
use Rattle.std.specs.Prelude.{◌≡◌, [], ◌∷◌, Option, None, Some, Result, Ok, Err}
use Rattle.viz_network.specs.declared.node.Node.{Node}
use Rattle.viz_network.specs.declared.fault.Cause.{Cause}
use Rattle.viz_network.specs.declared.fault.Fault.{Fault}
use Rattle.viz_network.specs.Cone.{Cone, Tree, none, empty, fed}
use Rattle.viz_node_meaning.specs.Rules.{Inputs, NodeRule}

-- a cause becomes a fault of its node
abbrev pub at_node : {X : Type 0} → Node → Result X Cause → Result X Fault
at_node n (Ok x) = Ok x
at_node n (Err cause) = Err (record { node = n.id; cause = cause })

-- a port with what feeds it
abbrev pub filled : {X : Type 0} → Result X Fault → Result (Option X) Fault
filled (Ok x) = Ok (Some x)
filled (Err fault) = Err fault

-- a port in front of others: its fault comes first
abbrev pub joined : {X : Type 0} → Result (Option X) Fault → Result (Inputs X) Fault
    → Result (Inputs X) Fault
joined (Err fault) others = Err fault
joined (Ok x) (Err fault) = Err fault
joined (Ok x) (Ok xs) = Ok (x ∷ xs)

-- what a node gives: the first fault of its inputs, or what the rule makes of them
abbrev pub IsMade : {X : Type 0} → NodeRule X → Node → Result (Inputs X) Fault → Result X Fault
    → Type 0
IsMade rule n (Err fault) value = value ≡ Err fault
IsMade {X} rule n (Ok inputs) value = (own : Result X Cause) × rule n inputs own
    × (value ≡ at_node n own)

-- what the nodes give that feed the ports, or the first fault among them, ports ascending
abbrev pub AreGiven : {X : Type 0} → NodeRule X → Cone → Result (Inputs X) Fault → Type 0
AreGiven rule none all = all ≡ Ok []
AreGiven {X} rule (empty others) all = (rest : Result (Inputs X) Fault) × AreGiven rule others rest
    × (all ≡ joined (Ok None) rest)
AreGiven {X} rule (fed n own others) all =
    (inputs : Result (Inputs X) Fault) × (value : Result X Fault) × (rest : Result (Inputs X) Fault)
    × AreGiven rule own inputs × IsMade rule n inputs value × AreGiven rule others rest
    × (all ≡ joined (filled value) rest)

-- what the node at the foot of a cone gives
abbrev pub IsGiven : {X : Type 0} → NodeRule X → Option Tree → Result X Fault → Type 0
IsGiven rule None value = ⊥
IsGiven {X} rule (Some t) value = (inputs : Result (Inputs X) Fault) × AreGiven rule t.1 inputs
    × IsMade rule t.0 inputs value
