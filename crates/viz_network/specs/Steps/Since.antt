-- Which nodes of a later network are those of an earlier one. Only proofs speak of it.
use Rattle.std.specs.Prelude.{◌≡◌, ℕ, ◌<◌, ◌⊎◌, Some}
use Rattle.viz_network.specs.declared.node.Node.{Node}
use Rattle.viz_network.specs.Network.{Network, node_of}

-- each node of the new network is a node of the old one as it was, or was stamped past p
abbrev pub Since : ℕ → Network → Network → Type 0
Since p old new = (x : ℕ) (n : Node) → node_of new x ≡ Some n → (node_of old x ≡ Some n)
    ⊎ (p < n.stamp)
