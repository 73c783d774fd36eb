-- What a publication by a pass changes of it (docs/DEFINITIONS.md, "Histories").
use Rattle.std.specs.Prelude.{◌≡◌, ◌+◌, ◌%◌, ◌^◌, List, length, Some}
use Rattle.viz_base.specs.declared.node.NodeId.{NodeId}
use Rattle.viz_base.specs.declared.node.Shape.{Shape}
use Rattle.viz_turn.specs.Known as turn
use Rattle.viz_entries.specs.declared.entry.Entry.{Entry}
use Rattle.viz_hub.specs.declared.sent.Sent.{Sent}
use Rattle.viz_hub.specs.Passes.{PassKnown, as_known, with_sent, GoesFurther}

-- a publication for this node and in this shape, of parts made in the network of these entries
abbrev pub publication : List Entry → NodeId → Shape → Sent
publication seen sink shape = record { at = length seen; sink = sink; shape = shape }

-- the pass published this: it has seen more of the history, has no entry more, and counts one
-- publication more, modulo 2^64
pub record Sends (sent : Sent) (old new : PassKnown) : Type 0 where
  pub same : new
      ≡ with_sent ((old.sent + 1) % 2 ^ 64) (Some sent) (turn.at_seen (as_known old) new.seen)
  pub further : GoesFurther old new.seen
