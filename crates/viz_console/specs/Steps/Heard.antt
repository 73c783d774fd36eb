-- What the code has heard of a line, and what it does then: words of private contracts alone.
use Rattle.std.specs.Prelude.{◌≡◌, ◌≤◌, Bool, true, false, List, [], ◌∷◌, length}
use Rattle.std.specs.Prelude.{Option, None, Some, Result, Ok, Err}
use Rattle.viz_network.specs.declared.edit.Edit.{Edit}
use Rattle.viz_batches.specs.Batches.{batch_limit}
use Rattle.viz_words.specs.declared.refusal.ScriptRefusal.{ScriptRefusal}
use Rattle.viz_script.specs.Orders.{seen}
use Rattle.viz_console.specs.declared.acts.Act.{Act}
use Rattle.viz_console.specs.declared.acts.Act.TheVariants as act
use Rattle.viz_console.specs.declared.line.Said.{Said}
use Rattle.viz_console.specs.declared.line.Said.TheVariants as said
use Rattle.viz_console.specs.Lines.{Demand, nothing, quits, begins, ends, asks, Place, behind}
use Rattle.viz_console.specs.Lines.{Due, bad, serve, due, is_quit}

-- what a line said, as the definition has it
abbrev pub heard : Said → Demand
heard said.Nothing = nothing
heard said.Quit = quits
heard said.Begin = begins
heard said.End = ends
heard (said.Order order) = asks (seen order)

abbrev pub heard_result : Result Said ScriptRefusal → Result Demand ScriptRefusal
heard_result (Ok s) = Ok (heard s)
heard_result (Err e) = Err e

-- an open batch has at most 64 edits
abbrev pub IsSized : Option (List Edit) → Type 0
IsSized None = Unit {0}
IsSized (Some es) = length es ≤ batch_limit

-- what is due by an act
abbrev pub due_in : Act → List Due
due_in act.Nothing = []
due_in act.Quit = []
due_in (act.Bad line r) = bad line r ∷ []
due_in (act.Serve number order) = serve number (seen order) ∷ []

-- whether an act quits the session
abbrev pub quits_by : Act → Bool
quits_by act.Quit = true
quits_by a = false

-- what is to be done for a line that demands this, and the place behind it
pub record Acts (old : Place) (demanded : Result Demand ScriptRefusal) (a : Act) (new : Place)
    : Type 0 where
  pub due_is : due_in a ≡ due old demanded
  pub quit_is : quits_by a ≡ is_quit demanded
  pub after : new ≡ behind old demanded
