-- What a hub and its passes stand on. Only the types and private contracts speak of it.
use Rattle.std.specs.Prelude.{◌≡◌, ℕ, length}
use Rattle.viz_turn.specs.declared.turn.Turn.{Turn}
use Rattle.viz_turn.specs.Known.{Identity, Known}
use Rattle.viz_turn.specs.Passes.{identity}
use Rattle.viz_kept.specs.True.{AreTrueIn}
use Rattle.viz_entries.specs.declared.entry.Entry.{Entry}
use Rattle.viz_history.specs.declared.pinned.Pinned.{Pinned}
use Rattle.viz_entries.specs.History.{own_of, network_of}
use Rattle.viz_history.specs.Machine.{State}
use Rattle.viz_hub.specs.Passes.{PassKnown}

-- the hub that a turn is of
abbrev pub hub_of : Turn State Entry → Identity
hub_of turn = identity (λ s. s.limit) turn

-- how many entries have the number of the pass
abbrev pub count_of : Known Entry → ℕ
count_of p = length (own_of p.number p.seen)

-- the network of what the pass has seen, and kept parts that are true in it
pub record IsPinned (p : PassKnown) (pinned : Pinned) : Type 0 where
  pub at : pinned.at ≡ length p.seen
  pub network : pinned.net ≡ network_of p.seen
  pub parts : AreTrueIn (network_of p.seen) pinned.entries
