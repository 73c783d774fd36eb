-- What the code has heard of a line: words of private contracts alone.
use Rattle.std.specs.Prelude.{ℕ, ◌≤◌, Result, Ok, Err}
use Rattle.viz_words.specs.declared.refusal.ScriptRefusal.{ScriptRefusal}
use Rattle.viz_script.specs.declared.line.Said.{Said}
use Rattle.viz_script.specs.declared.line.Said.TheVariants as said
use Rattle.viz_script.specs.Orders.{seen}
use Rattle.viz_script.specs.Lines.{Line, silent, begins_phase, begins_batch, ends_batch, asks}
use Rattle.viz_script.specs.Lines.{actor_limit}

-- what a line said, as the definition has it
abbrev pub heard : Said → Line
heard said.Nothing = silent
heard said.Phase = begins_phase
heard (said.Begin actor) = begins_batch actor
heard (said.End actor) = ends_batch actor
heard (said.Order actor order) = asks actor (seen order)

abbrev pub heard_result : Result Said ScriptRefusal → Result Line ScriptRefusal
heard_result (Ok s) = Ok (heard s)
heard_result (Err e) = Err e

-- the number of an actor
pub record IsActor (actor : ℕ) : Type 0 where
  pub least : 1 ≤ actor
  pub most : actor ≤ actor_limit

-- who said it, if someone did, is an actor
abbrev pub HasActor : Said → Type 0
HasActor (said.Begin actor) = IsActor actor
HasActor (said.End actor) = IsActor actor
HasActor (said.Order actor order) = IsActor actor
HasActor _ = Unit {0}
