-- Why a command of one file is refused (docs/FORMATS.md, "Report").
use Rattle.std.specs.Prelude.{◌≡◌, ℕ, List, Err}
use Rattle.viz_base.specs.declared.call.ReadAnswer.{ReadAnswer}
use Rattle.viz_base.specs.declared.call.ReadAnswer.TheVariants as read
use Rattle.viz_network.specs.declared.fault.Fault.{Fault}
use Rattle.viz_report.specs.declared.line.Reason.{Reason}
use Rattle.viz_report.specs.declared.line.Reason.TheVariants as reason
use Rattle.viz_once.specs.declared.command.Filter.{Filter}
use Rattle.viz_once.specs.Files.{IsFileFor, IsNameFor}

-- the filter makes no file of the bytes, for this fault of the node of this name
pub record IsFaultFor (filter : Filter) (bytes : List ℕ) (fault : Fault)
    (name : List ℕ) : Type 0 where
  pub file : IsFileFor filter bytes (Err fault)
  pub named : IsNameFor filter bytes fault.node.0 name

-- when a command is refused for a reason, by what its read answered: the file is too long to be
-- loaded, or the filter makes no file of it
abbrev pub IsReason : Filter → ReadAnswer → Reason → Type 0
IsReason filter (read.TooLong taken) why = why ≡ reason.TooLong
IsReason filter (read.Given bytes) (reason.Fault fault name) = IsFaultFor filter bytes fault name
IsReason filter answer why = ⊥
