-- The commands of a script, with their refusals (docs/FORMATS-OF-SCRIPTS.md, "Scripts").
use Rattle.std.specs.Prelude.{◌≡◌, ℕ, true, List, Result, Ok}
use Rattle.viz_network.specs.declared.edit.Edit.{Edit}
use Rattle.viz_words.specs.declared.refusal.ScriptRefusal.{ScriptRefusal}
use Rattle.viz_words.specs.declared.command.Verb.{Verb}
use Rattle.viz_words.specs.declared.command.Verb.TheVariants as verb
use Rattle.viz_words.specs.Gives.{◌>>=◌}
use Rattle.viz_words.specs.Numbers.{natural_in}
use Rattle.viz_words.specs.Names.{is_node_name, is_file_name, named_in}
use Rattle.viz_words.specs.Commands.{two, three, four}
use Rattle.viz_words.specs.Edits.{edit_in}
use Rattle.viz_script.specs.declared.order.Order.{Order}
use Rattle.viz_script.specs.declared.order.Order.TheVariants as order

-- a command as contracts see it: a shape is its two numbers
pub data Asked : Type 0 where
  edit : Edit → Asked
  edits : List Edit → Asked
  load : List ℕ → List ℕ → Asked
  update : List ℕ → List ℕ → ℕ → ℕ → Asked
  audit : List ℕ → ℕ → ℕ → Asked

abbrev pub seen : Order → Asked
seen (order.Do e) = edit e
seen (order.DoAll batch) = edits batch
seen (order.Load node file) = load node file
seen (order.Update node file shape) = update node file shape.pieces shape.workers
seen (order.Audit node shape) = audit node shape.pieces shape.workers

-- what the command names as a file is the name of one
abbrev pub NamesFile : Asked → Type 0
NamesFile (load node file) = is_file_name file ≡ true
NamesFile (update node file pieces workers) = is_file_name file ≡ true
NamesFile _ = Unit {0}

-- NODE FILE
unfoldable pub load_in : List (List ℕ) → Result Asked ScriptRefusal
load_in words = do
  w ← two words
  node ← named_in is_node_name w.0
  file ← named_in is_file_name w.1
  Ok (load node file)

-- NODE FILE PIECES WORKERS
unfoldable pub update_in : List (List ℕ) → Result Asked ScriptRefusal
update_in words = do
  w ← four words
  node ← named_in is_node_name w.0
  file ← named_in is_file_name w.1
  pieces ← natural_in 1 64 w.2
  workers ← natural_in 1 64 w.3
  Ok (update node file pieces workers)

-- NODE PIECES WORKERS
unfoldable pub audit_in : List (List ℕ) → Result Asked ScriptRefusal
audit_in words = do
  w ← three words
  node ← named_in is_node_name w.0
  pieces ← natural_in 1 64 w.1
  workers ← natural_in 1 64 w.2
  Ok (audit node pieces workers)

-- an edit as a command
abbrev pub edit_order : Verb → List (List ℕ) → Result Asked ScriptRefusal
edit_order v words = edit_in v words >>= λ e. Ok (edit e)

-- the command of the words behind its word
abbrev pub order_in : Verb → List (List ℕ) → Result Asked ScriptRefusal
order_in verb.Load words = load_in words
order_in verb.Update words = update_in words
order_in verb.Audit words = audit_in words
order_in v words = edit_order v words
