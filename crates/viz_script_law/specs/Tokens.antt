-- The words of a line, numbers apart from all others, and their plain spelling
-- (docs/FORMATS-OF-SCRIPTS.md, "Scripts").
use Rattle.std.specs.Prelude.{ℕ, ℤ, pos, List, [], ◌∷◌, ◌++◌, map, take, flat_map, codes}
use Rattle.std.specs.Fmt.{signed_decimal}
use Rattle.viz_kinds.specs.declared.param.Value.{Value}
use Rattle.viz_kinds.specs.declared.param.Value.TheVariants.{Numbers, Text}
use Rattle.viz_network.specs.declared.edit.Edit.{Edit}
use Rattle.viz_network.specs.declared.edit.Edit.TheVariants as change
use Rattle.viz_words.specs.declared.command.Command.{Command}
use Rattle.viz_words.specs.declared.command.Command.TheVariants as command
use Rattle.viz_words.specs.Words.{spaced}
use Rattle.viz_words.specs.Tables.{command_word, kind_word, param_word}
use Rattle.viz_script.specs.Orders.{Asked, edit, edits, load, update, audit}
use Rattle.viz_script.specs.Lines.{Line, silent, begins_phase, begins_batch, ends_batch, asks}

-- a word that has one spelling, or a number, which has several
pub data Token : Type 0 where
  exact : List ℕ → Token
  number : ℤ → Token

-- the token of a command's word
abbrev pub first_token : Command → Token
first_token c = exact (command_word c)

-- the tokens of a value
abbrev pub value_tokens : Value → List Token
value_tokens (Numbers count items) = map number (take count items)
value_tokens (Text text) = exact text ∷ []

-- the tokens of an edit; a script's load is a command of its own
abbrev pub edit_tokens : Edit → List Token
edit_tokens (change.Add kind node) = first_token command.Add ∷ exact
    (kind_word kind) ∷ exact node ∷ []
edit_tokens (change.Remove node) = first_token command.Remove ∷ exact node ∷ []
edit_tokens (change.Connect from to port) =
    first_token command.Connect ∷ exact from ∷ exact to ∷ number (pos port) ∷ []
edit_tokens (change.Disconnect to port) = first_token command.Disconnect ∷ exact to ∷ number
    (pos port) ∷ []
edit_tokens (change.Set node param value) =
    first_token command.Set ∷ exact node ∷ exact (param_word param) ∷ value_tokens value
edit_tokens (change.Load node file) = []

-- the tokens of a command; a batch has several lines
abbrev pub command_tokens : Asked → List Token
command_tokens (edit e) = edit_tokens e
command_tokens (edits es) = []
command_tokens (load node file) = first_token command.Load ∷ exact node ∷ exact file ∷ []
command_tokens (update node file pieces workers) =
    first_token command.Update ∷ exact node ∷ exact file ∷ number (pos pieces) ∷ number
    (pos workers) ∷ []
command_tokens (audit node pieces workers) =
    first_token command.Audit ∷ exact node ∷ number (pos pieces) ∷ number (pos workers) ∷ []

-- the tokens of a line: none, the word phase, or an actor and what it does
abbrev pub line_tokens : Line → List Token
line_tokens silent = []
line_tokens begins_phase = exact (codes "phase") ∷ []
line_tokens (begins_batch actor) = number (pos actor) ∷ first_token command.Begin ∷ []
line_tokens (ends_batch actor) = number (pos actor) ∷ first_token command.End ∷ []
line_tokens (asks actor asked) = number (pos actor) ∷ command_tokens asked

-- the plain spelling of a token
abbrev pub plain_word : Token → List ℕ
plain_word (exact text) = text
plain_word (number n) = signed_decimal n

-- the plain spelling of a line: its words with one space between them
abbrev pub plain_line : Line → List ℕ
plain_line line = spaced (map plain_word (line_tokens line))

-- the plain spelling of a script: its lines, each with a newline
abbrev pub plain_script : List Line → List ℕ
plain_script lines = flat_map (λ line. plain_line line ++ 10 ∷ []) lines
