-- What a call of apply answers.
use Rattle.std.specs.Prelude.{◌≡◌, ℕ, ◌<◌, List, Result, Ok, Err}
use Rattle.std.specs.List.{AllByRecursion}
use Rattle.viz_network.specs.declared.edit.Edit.{Edit}
use Rattle.viz_network.specs.declared.edit.Edit.TheVariants.{Add, Load}
use Rattle.viz_network.specs.declared.refusal.Refusal.{Refusal}
use Rattle.viz_network.specs.declared.refusal.ApplyStop.{ApplyStop}
use Rattle.viz_network.specs.declared.refusal.ApplyStop.TheVariants.{Refused, Memory}
use Rattle.viz_network.specs.declared.node.Node.{Node}
use Rattle.viz_network.specs.Network.{Network}

-- the edit is accepted
abbrev pub IsAccepted : Result Network Refusal → Type 0
IsAccepted (Ok net) = Unit {0}
IsAccepted (Err r) = ⊥

-- the network is the one that the edit makes; or the edit is refused so and nothing changed; or
-- memory ran out at an edit that isn't refused and nothing changed
abbrev pub Applies : Result (Unit {0}) ApplyStop → Network → Network → Result Network Refusal
    → Type 0
Applies (Ok done) old new made = made ≡ Ok new
Applies (Err (Refused r)) old new made = (made ≡ Err r) × (new ≡ old)
Applies (Err Memory) old new made = IsAccepted made × (new ≡ old)

-- the same of an edit that takes no memory
abbrev pub Decides : Result (Unit {0}) Refusal → Network → Network → Result Network Refusal → Type 0
Decides (Ok done) old new made = made ≡ Ok new
Decides (Err r) old new made = (made ≡ Err r) × (new ≡ old)

-- the position is past the Add and the stamp of each node
abbrev pub IsPast : ℕ → Network → Type 0
IsPast at net = AllByRecursion (λ (n : List ℕ × Node). (n.1.id.0 < at) × (n.1.stamp < at)) net

-- an edit that may take memory: a node more, or a file; every other one has the room that it needs
-- in the network
abbrev pub MayTakeMemory : Edit → Type 0
MayTakeMemory (Add kind node) = Unit {0}
MayTakeMemory (Load node file) = Unit {0}
MayTakeMemory edit = ⊥
