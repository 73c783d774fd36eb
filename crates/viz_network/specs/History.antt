-- The networks of edit histories (docs/DEFINITIONS.md, "Networks").
use Rattle.std.specs.Prelude.{ℕ, ◌+◌, List, [], ◌∷◌, Result, Ok, Err}
use Rattle.viz_network.specs.declared.edit.Edit.{Edit}
use Rattle.viz_network.specs.declared.refusal.Refusal.{Refusal}
use Rattle.viz_network.specs.Network.{Network}
use Rattle.viz_network.specs.Edits.{apply}

-- the network that was made, or the one before where the edit was refused
abbrev pub pick : Network → Result Network Refusal → Network
pick net (Ok made) = made
pick net (Err r) = net

-- an accepted edit makes another network, a refused one changes nothing
abbrev pub after : ℕ → Edit → Network → Network
after at edit net = pick net (apply at edit net)

-- the network after more edits, the first of them at this position
abbrev pub net_after : ℕ → List Edit → Network → Network
net_after at [] net = net
net_after at (edit ∷ edits) net = net_after (at + 1) edits (after at edit net)

-- the network of a history, whose positions are counted from 1
abbrev pub net_of : List Edit → Network
net_of edits = net_after 1 edits []
