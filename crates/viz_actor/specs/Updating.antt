-- What an update or an audit by a pass did, between the entries that it had seen before and
-- has seen then
-- (docs/DEFINITIONS.md, "The account of a script").
use Rattle.std.specs.Prelude.{◌≡◌, ℕ, List, length, Option, None, Some, IfSome}
use Rattle.viz_base.specs.declared.node.Shape.{Shape}
use Rattle.viz_base.specs.declared.port.Port as port
use Rattle.viz_turn.specs.Known as turn
use Rattle.viz_hub.specs.Passes.{PassKnown, as_known, at_seen, with_sent, GoesFurther}
use Rattle.viz_hub.specs.Publishing.{publication, Sends}
use Rattle.viz_entries.specs.declared.entry.Entry.{Entry}
use Rattle.viz_entries.specs.History.{network_of}
use Rattle.viz_kept.specs.True.{AreTrueIn}
use Rattle.viz_parts.specs.declared.stored.Stored.{Stored}
use Rattle.viz_account.specs.Answers.{HandsOut, at_of, audit_at_of, audit_line_of, line_of}
use Rattle.viz_account.specs.Answers.{missing_in, audit_missing_in}
use Rattle.viz_account.specs.Lines.{TellsAudit}
use Rattle.viz_account.specs.Served.{Updates}
use Rattle.viz_account.specs.declared.answer.Answer.{Answer}
use Rattle.viz_account.specs.declared.answer.AuditAnswer.{AuditAnswer}
use Rattle.viz_account.specs.declared.parts.UpdateParts.{UpdateParts}

-- the same pass, which may have seen more and published
abbrev pub IsSamePass : PassKnown → PassKnown → Type 0
IsSamePass old new = new ≡ with_sent new.sent new.last (turn.at_seen (as_known old) new.seen)

-- what was handed out is published, in this shape, as made in the network of these entries; without
-- it the pass is as it was
abbrev pub Publishes : List Entry → Shape → Option UpdateParts → PassKnown → PassKnown → Type 0
Publishes pinned shape None old new = new ≡ old
Publishes pinned shape (Some parts) old new =
    Sends (publication pinned parts.sink shape) old new

-- an update of a node by a pass: it was pinned with a history that goes further than it had seen,
-- and with parts that are true in its network; answer, calls, and what was handed out are those of
-- an update of that network from these parts; and what was handed out is published
pub record IsUpdate {P : Type 0} (m : port.Ghosts P) (node file : List ℕ) (shape : Shape)
    (a : Answer) (old new : PassKnown) (before after : P) : Type 0 where
  pub pinned : List Entry
  pub entries : List Stored
  pub parts : Option UpdateParts
  pub further : GoesFurther old pinned
  pub kept : AreTrueIn (network_of pinned) entries
  pub at : IfSome (at_of a) (λ n. n ≡ length pinned)
  pub updates : Updates m (network_of pinned) (length pinned) node file shape.pieces (line_of a)
      before after
  pub hands : HandsOut (network_of pinned) entries shape.pieces node (missing_in a) parts
  pub publishes : Publishes pinned shape parts (at_seen old pinned) new

-- an audit of a node by a pass, so
pub record IsAudit (node : List ℕ) (shape : Shape) (a : AuditAnswer) (old new : PassKnown)
    : Type 0 where
  pub pinned : List Entry
  pub entries : List Stored
  pub parts : Option UpdateParts
  pub further : GoesFurther old pinned
  pub kept : AreTrueIn (network_of pinned) entries
  pub at : IfSome (audit_at_of a) (λ n. n ≡ length pinned)
  pub tells : TellsAudit (network_of pinned) (length pinned) node (audit_line_of a)
  pub hands : HandsOut (network_of pinned) entries shape.pieces node (audit_missing_in a) parts
  pub publishes : Publishes pinned shape parts (at_seen old pinned) new
