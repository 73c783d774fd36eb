-- The words of a command, with their refusals (docs/FORMATS-OF-SCRIPTS.md, "Scripts").
use Rattle.std.specs.Prelude.{ℕ, ℤ, pos, ◌-◌, Bool, ◌&&◌, ◌==◌, nat_le, List, [], ◌∷◌, ◌++◌}
use Rattle.std.specs.Prelude.{length, replicate, Option, None, Some, Result, Ok, Err}
use Rattle.viz_kinds.specs.declared.kind.Kind.{Kind}
use Rattle.viz_kinds.specs.declared.param.Param.{Param}
use Rattle.viz_kinds.specs.declared.param.Param.TheVariants as param
use Rattle.viz_kinds.specs.declared.param.Value.{Value}
use Rattle.viz_kinds.specs.declared.param.Value.TheVariants.{Numbers, Text}
use Rattle.viz_kinds.specs.declared.range.Range.{Range}
use Rattle.viz_kinds.specs.Values.{numbers_of}
use Rattle.viz_words.specs.declared.refusal.ScriptRefusal.{ScriptRefusal}
use Rattle.viz_words.specs.declared.refusal.ScriptRefusal.TheVariants as refusal
use Rattle.viz_words.specs.declared.command.Command.{Command}
use Rattle.viz_words.specs.declared.command.Command.TheVariants as command
use Rattle.viz_words.specs.declared.command.Verb.{Verb}
use Rattle.viz_words.specs.declared.command.Verb.TheVariants as verb
use Rattle.viz_words.specs.Gives.{◌>>=◌, guard}
use Rattle.viz_words.specs.Numbers.{number_in}
use Rattle.viz_words.specs.Names.{is_node_name, is_array_name, named_in}
use Rattle.viz_words.specs.Tables.{command_named, kind_named, param_named}

-- the command of a kind
abbrev pub kind_verb : Option Kind → Result Verb ScriptRefusal
kind_verb None = Err refusal.Word
kind_verb (Some kind) = Ok (verb.Add kind)

abbrev pub add_verb : List (List ℕ) → Result Verb ScriptRefusal
add_verb [] = Ok verb.Missing
add_verb (word ∷ words) = kind_verb (kind_named word)

-- the command of a parameter
abbrev pub param_verb : Option Param → Result Verb ScriptRefusal
param_verb None = Err refusal.Word
param_verb (Some param) = Ok (verb.Set param)

abbrev pub set_verb : List (List ℕ) → Result Verb ScriptRefusal
set_verb [] = Ok verb.Missing
set_verb (node ∷ []) = Ok verb.Missing
set_verb (node ∷ word ∷ words) = param_verb (param_named word)

-- a command with its kind or its parameter, where these are known words
abbrev pub known_verb : Option Command → List (List ℕ) → Result Verb ScriptRefusal
known_verb None words = Err refusal.Word
known_verb (Some command.Add) words = add_verb words
known_verb (Some command.Remove) words = Ok verb.Remove
known_verb (Some command.Connect) words = Ok verb.Connect
known_verb (Some command.Disconnect) words = Ok verb.Disconnect
known_verb (Some command.Set) words = set_verb words
known_verb (Some command.Load) words = Ok verb.Load
known_verb (Some command.Update) words = Ok verb.Update
known_verb (Some command.Audit) words = Ok verb.Audit
known_verb (Some command.Begin) words = Ok verb.Begin
known_verb (Some command.End) words = Ok verb.End

-- the command of the words; Missing where it, its kind or its parameter is missing
abbrev pub verb_of : List (List ℕ) → Result Verb ScriptRefusal
verb_of [] = Ok verb.Missing
verb_of (word ∷ words) = known_verb (command_named word) words

-- a word that is due, and the words behind it
abbrev pub due : List (List ℕ) → Result (List ℕ × List (List ℕ)) ScriptRefusal
due [] = Err refusal.Arity
due (word ∷ words) = Ok (word, words)

-- just so many words are due
unfoldable pub one : List (List ℕ) → Result (List ℕ) ScriptRefusal
one words = do
  a ← due words
  none ← guard (length a.1 == 0) refusal.Arity
  Ok a.0

unfoldable pub two : List (List ℕ) → Result (List ℕ × List ℕ) ScriptRefusal
two words = do
  a ← due words
  b ← one a.1
  Ok (a.0, b)

unfoldable pub three : List (List ℕ) → Result (List ℕ × List ℕ × List ℕ) ScriptRefusal
three words = do
  a ← due words
  b ← two a.1
  Ok (a.0, b.0, b.1)

unfoldable pub four : List (List ℕ) → Result (List ℕ × List ℕ × List ℕ × List ℕ) ScriptRefusal
four words = do
  a ← due words
  b ← three a.1
  Ok (a.0, b.0, b.1, b.2)

-- whether the parameter takes so many words
abbrev pub fits_count : Option Range → ℕ → Bool
fits_count None n = n == 1
fits_count (Some range) n = nat_le range.least n && nat_le n range.most && nat_le n 8

-- the numbers of the words
abbrev pub numbers_in : List (List ℕ) → Result (List ℤ) ScriptRefusal
numbers_in [] = Ok []
numbers_in (word ∷ words) = number_in word >>= λ n. numbers_in words >>= λ ns. Ok (n ∷ ns)

-- the numbers and zeros, eight in all
abbrev pub padded : List ℤ → List ℤ
padded ns = ns ++ replicate (8 - length ns) (pos 0)

-- the numbers of the words, and zeros
abbrev pub padded_in : List (List ℕ) → Result (List ℤ) ScriptRefusal
padded_in words = numbers_in words >>= λ ns. Ok (padded ns)

-- the text of a parameter: the name of an array, or else a word like the name of a node
abbrev pub text_in : Param → List ℕ → Result (List ℕ) ScriptRefusal
text_in param.Array word = named_in is_array_name word
text_in _ word = named_in is_node_name word

-- a value of the words
abbrev pub value_in : Param → Option Range → List (List ℕ) → Result Value ScriptRefusal
value_in param None words = one words >>= λ word. text_in param word >>= λ text. Ok (Text text)
value_in param (Some range) words = padded_in words >>= λ items. Ok (Numbers (length words) items)

-- the node and the value that the words of a set tell, from the node on
unfoldable pub set_in : Param → List (List ℕ) → Result (List ℕ × Value) ScriptRefusal
set_in param words = do
  node ← due words
  values ← due node.1
  count ← guard (fits_count (numbers_of param) (length values.1)) refusal.Arity
  name ← named_in is_node_name node.0
  value ← value_in param (numbers_of param) values.1
  Ok (name, value)
