-- What an update and an audit are answered, and the lines of the report that tell it
-- (docs/FORMATS.md, "Report").
use Rattle.std.specs.Prelude.{◌≡◌, ℕ, List, Option, None, Some, Ok, Err}
use Rattle.viz_dataset.specs.declared.dataset.Dataset.{Dataset}
use Rattle.viz_plan.specs.Published.{AreOfPlan}
use Rattle.viz_network.specs.Network.{Network, named}
use Rattle.viz_network.specs.declared.node.Node.{Node}
use Rattle.viz_node_meaning.specs.Scratch.{IsScratch}
use Rattle.viz_parts.specs.declared.stored.Stored.{Stored}
use Rattle.viz_account.specs.declared.answer.Missing.{Missing}
use Rattle.viz_account.specs.declared.answer.Missing.TheVariants as missing
use Rattle.viz_account.specs.declared.answer.Answer.{Answer}
use Rattle.viz_account.specs.declared.answer.Answer.TheVariants as answer
use Rattle.viz_account.specs.declared.answer.AuditAnswer.{AuditAnswer}
use Rattle.viz_account.specs.declared.answer.AuditAnswer.TheVariants as audit
use Rattle.viz_account.specs.declared.parts.UpdateParts.{UpdateParts}
use Rattle.viz_report.specs.declared.line.Line.{Line}
use Rattle.viz_report.specs.declared.line.Line.TheVariants as line
use Rattle.viz_report.specs.declared.line.Reason.TheVariants as reason

-- ---- updates

-- the answer where there is no file
abbrev pub without : Missing → ℕ → Answer
without missing.Unknown at = answer.Unknown at
without (missing.Fault fault name) at = answer.Network fault name at
without missing.Memory at = answer.Memory

-- the line of an update
abbrev pub line_of : Answer → Line
line_of (answer.Written at cells points ran) = line.File at cells points ran
line_of (answer.Unknown at) = line.Refused reason.Unknown at
line_of (answer.Network fault name at) = line.Refused (reason.Fault fault name) at
line_of (answer.WriteFault at) = line.WriteFault
line_of answer.Memory = line.Memory

-- the number of entries that an answer speaks of
abbrev pub at_of : Answer → Option ℕ
at_of (answer.Written at cells points ran) = Some at
at_of (answer.Unknown at) = Some at
at_of (answer.Network fault name at) = Some at
at_of (answer.WriteFault at) = Some at
at_of answer.Memory = None

-- why an answer has no file, where none was made
abbrev pub missing_in : Answer → Option Missing
missing_in (answer.Written at cells points ran) = None
missing_in (answer.Unknown at) = Some missing.Unknown
missing_in (answer.Network fault name at) = Some (missing.Fault fault name)
missing_in (answer.WriteFault at) = None
missing_in answer.Memory = Some missing.Memory

-- ---- the parts of an update or an audit by its plan

-- what is handed out to be kept, where the node that was asked has a dataset: what an update of it
-- in so many pieces, by what is kept, may publish
pub record GivesParts (net : Network) (entries : List Stored) (pieces : ℕ) (parts : UpdateParts)
    : Type 0 where
  pub dataset : Dataset
  pub given : IsScratch net parts.sink.0 (Ok dataset)
  pub plan : AreOfPlan net entries parts.sink.0 pieces parts.used.items parts.made.items

-- the node of this name is the one with this number
pub record IsNamed (net : Network) (node : List ℕ) (id : ℕ) : Type 0 where
  pub found : Node
  pub there : named net node ≡ Some found
  pub same : found.id.0 ≡ id

-- why there are no parts: the node is unknown, or has no dataset, or memory ran out
abbrev pub LacksParts : Network → List ℕ → Option Missing → Type 0
LacksParts net node None = ⊥
LacksParts net node (Some missing.Unknown) = Unit {0}
LacksParts net node (Some (missing.Fault fault name)) = (id : ℕ) × IsNamed net node id
    × IsScratch net id (Err fault)
LacksParts net node (Some missing.Memory) = Unit {0}

-- what is handed out of the node of this name, by what is kept and in so many pieces, where a file
-- or counts are missing for this cause, or aren't
abbrev pub HandsOut : Network → List Stored → ℕ → List ℕ → Option Missing → Option UpdateParts
    → Type 0
HandsOut net entries pieces node cause None = LacksParts net node cause
HandsOut net entries pieces node cause (Some parts) =
    IsNamed net node parts.sink.0 × GivesParts net entries pieces parts

-- ---- audits

-- the answer where there are no counts
abbrev pub audit_without : Missing → ℕ → AuditAnswer
audit_without missing.Unknown at = audit.Unknown at
audit_without (missing.Fault fault name) at = audit.Network fault name at
audit_without missing.Memory at = audit.Memory

-- the line of an audit
abbrev pub audit_line_of : AuditAnswer → Line
audit_line_of
    (audit.Counted at counts) = line.Audit at counts.sides counts.two counts.lone counts.border
audit_line_of (audit.Unknown at) = line.Refused reason.Unknown at
audit_line_of (audit.Network fault name at) = line.Refused (reason.Fault fault name) at
audit_line_of audit.Memory = line.Memory

-- why an answer has no counts
abbrev pub audit_missing_in : AuditAnswer → Option Missing
audit_missing_in (audit.Counted at counts) = None
audit_missing_in (audit.Unknown at) = Some missing.Unknown
audit_missing_in (audit.Network fault name at) = Some (missing.Fault fault name)
audit_missing_in audit.Memory = Some missing.Memory

-- the number of entries that an answer speaks of
abbrev pub audit_at_of : AuditAnswer → Option ℕ
audit_at_of (audit.Counted at counts) = Some at
audit_at_of (audit.Unknown at) = Some at
audit_at_of (audit.Network fault name at) = Some at
audit_at_of audit.Memory = None
