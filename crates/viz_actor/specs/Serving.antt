-- What an actor's commands did, between the entries that its pass had seen before and has seen
-- then (docs/DEFINITIONS.md, "The account of a script").
use Rattle.std.specs.Prelude.{◌≡◌, ℕ, ◌≤◌, ◌==◌, cond, List, [], ◌∷◌, ◌++◌, length}
use Rattle.viz_base.specs.declared.port.Port as port
use Rattle.viz_network.specs.declared.edit.Edit.{Edit}
use Rattle.viz_entries.specs.declared.entry.Entry.{Entry}
use Rattle.viz_history.specs.declared.answer.EditAnswer.{EditAnswer}
use Rattle.viz_history.specs.declared.answer.EditAnswer.TheVariants as answer
use Rattle.viz_script.specs.declared.order.Step.{Step}
use Rattle.viz_script.specs.Orders.{Asked, seen}
use Rattle.viz_report.specs.declared.line.Line.{Line}
use Rattle.viz_report.specs.declared.line.Line.TheVariants as line
use Rattle.viz_report.specs.declared.line.Reason.TheVariants as reason
use Rattle.viz_account.specs.Lines.{TellsEdit, TellsBatch}
use Rattle.viz_account.specs.Account.{edited, least, places}
use Rattle.viz_account.specs.Served.{Extends, ServesAll}

-- the commands of the actor of this number among steps, in order
abbrev pub commands_of : ℕ → List Step → List Asked
commands_of actor [] = []
commands_of actor (s ∷ steps) = cond (s.actor == actor) (seen s.order ∷ commands_of actor steps)
    (commands_of actor steps)

-- lines were put behind others, one for each of these commands of a pass
pub record AddsLines {P : Type 0} (m : port.Ghosts P) (limit pass : ℕ) (os : List Asked)
    (ls ms : List Line) (old new : List Entry)
    (before after : P) : Type 0 where
  pub lines : List Line
  pub added : ms ≡ ls ++ lines
  pub served : ServesAll m limit pass os lines old new before after

-- the line of an edit's answer
abbrev pub edit_line : EditAnswer → Line
edit_line (answer.Done at) = line.Edit at
edit_line (answer.Refused index r at) = line.Refused (reason.Edit r) at
edit_line (answer.Full at) = line.Refused reason.Full at
edit_line answer.Memory = line.Memory

-- the line of a batch's answer: a refusal has its place in the batch
abbrev pub batch_line : EditAnswer → Line
batch_line (answer.Refused index r at) = line.Refused (reason.Batch index r) at
batch_line a = edit_line a

-- an edit of a pass, and its line
pub record Edits (limit pass : ℕ) (e : Edit) (l : Line) (old new : List Entry) : Type 0 where
  pub further : Extends old new
  pub own : places (pass ∷ []) new ≡ places (pass ∷ []) old ++ edited l
  pub told : (n : ℕ) × TellsEdit limit new (pass ∷ []) n e l × (least (length old) l ≤ n)
      × (n ≤ length new)

-- a batch of a pass, and its line
pub record Batches (limit pass : ℕ) (batch : List Edit) (l : Line) (old new : List Entry) : Type 0
  where
    pub further : Extends old new
    pub own : places (pass ∷ []) new ≡ places (pass ∷ []) old ++ edited l
    pub told : (n : ℕ) × TellsBatch limit new (pass ∷ []) n batch l × (least (length old) l ≤ n)
        × (n ≤ length new)
