-- The edit that the words behind a command tell (docs/FORMATS-OF-SCRIPTS.md, "Scripts").
use Rattle.std.specs.Prelude.{ℕ, List, Result, Ok, Err}
use Rattle.viz_kinds.specs.declared.kind.Kind.{Kind}
use Rattle.viz_kinds.specs.declared.param.Param.{Param}
use Rattle.viz_network.specs.declared.edit.Edit.{Edit}
use Rattle.viz_network.specs.declared.edit.Edit.TheVariants as edit
use Rattle.viz_words.specs.declared.refusal.ScriptRefusal.{ScriptRefusal}
use Rattle.viz_words.specs.declared.refusal.ScriptRefusal.TheVariants.{Arity}
use Rattle.viz_words.specs.declared.command.Verb.{Verb}
use Rattle.viz_words.specs.declared.command.Verb.TheVariants as verb
use Rattle.viz_words.specs.Gives.{◌>>=◌}
use Rattle.viz_words.specs.Numbers.{natural_in}
use Rattle.viz_words.specs.Names.{is_node_name, named_in}
use Rattle.viz_words.specs.Commands.{one, two, three, set_in}

-- KIND NODE
unfoldable pub add_in : Kind → List (List ℕ) → Result Edit ScriptRefusal
add_in kind words = do
  w ← two words
  node ← named_in is_node_name w.1
  Ok (edit.Add kind node)

-- NODE
unfoldable pub remove_in : List (List ℕ) → Result Edit ScriptRefusal
remove_in words = do
  w ← one words
  node ← named_in is_node_name w
  Ok (edit.Remove node)

-- FROM TO PORT
unfoldable pub connect_in : List (List ℕ) → Result Edit ScriptRefusal
connect_in words = do
  w ← three words
  from ← named_in is_node_name w.0
  to ← named_in is_node_name w.1
  port ← natural_in 0 255 w.2
  Ok (edit.Connect from to port)

-- TO PORT
unfoldable pub disconnect_in : List (List ℕ) → Result Edit ScriptRefusal
disconnect_in words = do
  w ← two words
  to ← named_in is_node_name w.0
  port ← natural_in 0 255 w.1
  Ok (edit.Disconnect to port)

-- NODE PARAM VALUES
unfoldable pub value_set_in : Param → List (List ℕ) → Result Edit ScriptRefusal
value_set_in param words = do
  set ← set_in param words
  Ok (edit.Set set.0 param set.1)

-- the edit of a command; another command tells none
abbrev pub edit_in : Verb → List (List ℕ) → Result Edit ScriptRefusal
edit_in (verb.Add kind) words = add_in kind words
edit_in verb.Remove words = remove_in words
edit_in verb.Connect words = connect_in words
edit_in verb.Disconnect words = disconnect_in words
edit_in (verb.Set param) words = value_set_in param words
edit_in _ words = Err Arity
