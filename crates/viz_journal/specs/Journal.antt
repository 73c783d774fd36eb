-- The text of a journal (docs/FORMATS-OF-SCRIPTS.md, "Journals").
use Rattle.std.specs.Prelude.{ℕ, List, [], ◌∷◌, ◌++◌, map, take, length, flat_map, codes}
use Rattle.std.specs.Fmt.{decimal, signed_decimal}
use Rattle.viz_kinds.specs.declared.param.Value.{Value}
use Rattle.viz_kinds.specs.declared.param.Value.TheVariants.{Numbers, Text}
use Rattle.viz_network.specs.declared.edit.Edit.{Edit}
use Rattle.viz_network.specs.declared.edit.Edit.TheVariants as edit
use Rattle.viz_words.specs.declared.command.Command.TheVariants as command
use Rattle.viz_words.specs.Words.{spaced}
use Rattle.viz_words.specs.Tables.{command_word, kind_word, param_word}
use Rattle.viz_journal.specs.declared.entry.JournalEntry.{JournalEntry}
use Rattle.viz_journal.specs.declared.version.Version.{Version}
use Rattle.viz_journal.specs.declared.version.Version.TheVariants.{One, Two}

-- the words of a value
abbrev pub value_words : Value → List (List ℕ)
value_words (Numbers count items) = map signed_decimal (take count items)
value_words (Text word) = word ∷ []

-- the words of an edit; a load has the number of its bytes
abbrev pub edit_words : Edit → List (List ℕ)
edit_words (edit.Add kind node) = command_word command.Add ∷ kind_word kind ∷ node ∷ []
edit_words (edit.Remove node) = command_word command.Remove ∷ node ∷ []
edit_words (edit.Connect from to port) =
    command_word command.Connect ∷ from ∷ to ∷ decimal port ∷ []
edit_words (edit.Disconnect to port) = command_word command.Disconnect ∷ to ∷ decimal port ∷ []
edit_words (edit.Set node param value) =
    command_word command.Set ∷ node ∷ param_word param ∷ value_words value
edit_words (edit.Load node file) = command_word command.Load ∷ node ∷ decimal (length file) ∷ []

-- the line of an edit, without its newline
abbrev pub edit_line : Edit → List ℕ
edit_line e = spaced (edit_words e)

-- the bytes of a load and a newline
abbrev pub file_text : Edit → List ℕ
file_text (edit.Load node file) = file ++ 10 ∷ []
file_text _ = []

-- an edit: its line, and the bytes of a load
abbrev pub edit_text : Edit → List ℕ
edit_text e = edit_line e ++ 10 ∷ file_text e

-- the line in front of a batch, without its newline: its actor, its count, and how many edits it
-- has
abbrev pub batch_line : ℕ → ℕ → ℕ → List ℕ
batch_line actor count edits = spaced (decimal actor ∷ decimal count ∷ decimal edits ∷ [])

-- what stands in front of an edit on its line in version 1: its actor and its count
abbrev pub lead : ℕ → ℕ → List ℕ
lead actor count = spaced (decimal actor ∷ decimal count ∷ []) ++ 32 ∷ []

-- an entry: in version 1 each edit behind its actor and its count, in version 2 the line of its
-- batch, and its edits
abbrev pub entry_text : Version → JournalEntry → List ℕ
entry_text One e = flat_map (λ edit. lead e.actor e.count ++ edit_text edit) e.batch
entry_text Two e = batch_line e.actor e.count (length e.batch) ++ 10 ∷ flat_map edit_text e.batch

-- the first line with its newline, and the last one without it
abbrev pub first_line : Version → List ℕ
first_line One = codes "vizrun journal 1\n"
first_line Two = codes "vizrun journal 2\n"

abbrev pub last_line : ℕ → List ℕ
last_line count = codes "end " ++ decimal count

-- the entries in the text of a version: its first line, the entries, and the last line
abbrev pub journal_in : Version → List JournalEntry → List ℕ
journal_in version entries = first_line version ++ flat_map (entry_text version) entries
    ++ (last_line (length entries) ++ 10 ∷ [])

-- a journal
abbrev pub journal : List JournalEntry → List ℕ
journal entries = journal_in Two entries
