-- What a core keeps. Only its type and proofs speak of it.
use Rattle.std.specs.Prelude.{◌≡◌, ℕ, ◌≤◌, List, length}
use Rattle.viz_parts.specs.declared.stored.Stored.{Stored}
use Rattle.viz_kept.specs.True.{AreTrueOf}
use Rattle.viz_network.specs.Network.{Network}
use Rattle.viz_entries.specs.declared.entry.Entry.{Entry}
use Rattle.viz_entries.specs.History.{edits_of, network_of, IsLegal}

-- a legal history within its limit, with the number of its edits, its network, and kept parts that
-- are true of it
pub record IsKept (h : List Entry) (count limit : ℕ) (net : Network) (cache : List Stored) : Type 0
  where
    pub edits : count ≡ length (edits_of h)
    pub network : net ≡ network_of h
    pub legal : IsLegal h
    pub within : length h ≤ limit
    pub fits : limit ≤ 67108863
    pub parts : AreTrueOf (edits_of h) cache
