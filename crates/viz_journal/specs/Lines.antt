-- What a line of a journal says, however it is spelled, with its refusals
-- (docs/FORMATS-OF-SCRIPTS.md, "Journals").
use Rattle.std.specs.Prelude.{ℕ, ℤ, pos, negsuc, List, [], ◌∷◌, codes, ok_or, Result, Ok, Err}
use Rattle.std.specs.Prelude.{if◌then◌else◌}
use Rattle.viz_kinds.specs.Values.{is_text}
use Rattle.viz_words.specs.declared.refusal.ScriptRefusal.{ScriptRefusal}
use Rattle.viz_words.specs.declared.refusal.ScriptRefusal.TheVariants as refusal
use Rattle.viz_words.specs.declared.command.Verb.{Verb}
use Rattle.viz_words.specs.declared.command.Verb.TheVariants as verb
use Rattle.viz_words.specs.Gives.{◌>>=◌, guard}
use Rattle.viz_words.specs.Lines.{is_plain}
use Rattle.viz_words.specs.Words.{words_of}
use Rattle.viz_words.specs.Numbers.{number_of, number_in, natural_in}
use Rattle.viz_words.specs.Names.{is_node_name, named_in}
use Rattle.viz_words.specs.Commands.{verb_of, due, one, two}
use Rattle.viz_words.specs.Edits.{edit_in}
use Rattle.viz_batches.specs.Batches.{batch_limit}
use Rattle.viz_journal.specs.declared.draft.Draft.{Draft}
use Rattle.viz_journal.specs.declared.draft.Draft.TheVariants as draft
use Rattle.viz_journal.specs.declared.line.Told.{Told}
use Rattle.viz_journal.specs.declared.line.Head.{Head}
use Rattle.viz_journal.specs.declared.line.Line.{Line}
use Rattle.viz_journal.specs.declared.line.Line.TheVariants as line
use Rattle.viz_journal.specs.declared.version.Version.{Version}
use Rattle.viz_journal.specs.declared.version.Version.TheVariants as version

-- ---- edits

-- a command that may stand in a journal
abbrev pub journal_verb : Verb → Result Verb ScriptRefusal
journal_verb verb.Update = Err refusal.Word
journal_verb verb.Audit = Err refusal.Word
journal_verb verb.Begin = Err refusal.Word
journal_verb verb.End = Err refusal.Word
journal_verb v = Ok v

-- NODE LENGTH
unfoldable pub load_draft : List (List ℕ) → Result Draft ScriptRefusal
load_draft words = do
  w ← two words
  node ← named_in is_node_name w.0
  len ← number_in w.1
  Ok (draft.Load node len)

abbrev pub edit_draft : Verb → List (List ℕ) → Result Draft ScriptRefusal
edit_draft v words = edit_in v words >>= λ e. Ok (draft.Edit e)

-- the edit of a command, or its load without the bytes
abbrev pub draft_in : Verb → List (List ℕ) → Result Draft ScriptRefusal
draft_in verb.Load words = load_draft words
draft_in v words = edit_draft v words

-- the edit of a command and the words behind it
unfoldable pub commanded : List ℕ → List (List ℕ) → Result Draft ScriptRefusal
commanded word words = do
  any ← verb_of (word ∷ words)
  known ← journal_verb any
  draft_in known words

-- the edit of the words of a line
abbrev pub draft_words : List (List ℕ) → Result Draft ScriptRefusal
draft_words [] = Err refusal.Word
draft_words (word ∷ words) = commanded word words

-- the edit that a line of a batch says
abbrev pub draft_of : List ℕ → Result Draft ScriptRefusal
draft_of text = guard (is_plain text) refusal.Word >>= λ plain. draft_words (words_of text)

-- the number of bytes that a load tells; none below zero
abbrev pub size : ℤ → ℕ
size (pos n) = n
size (negsuc n) = 0

-- ---- entries

-- the greatest number of 32 bits
abbrev pub greatest : ℕ
greatest = 4294967295

-- the command behind the first word
abbrev pub behind_verb : List (List ℕ) → Result Verb ScriptRefusal
behind_verb [] = Ok verb.Missing
behind_verb (word ∷ words) = verb_of words

-- ACTOR COUNT and an edit
unfoldable pub told_in : List ℕ → List (List ℕ) → Result Told ScriptRefusal
told_in word words = do
  number ← ok_or (number_of word) refusal.Word
  any ← behind_verb words
  known ← journal_verb any
  counted ← due words
  command ← due counted.1
  drafted ← draft_in known command.1
  count ← natural_in 0 greatest counted.0
  actor ← natural_in 0 greatest word
  Ok (record { actor = actor; count = count; draft = drafted })

-- ACTOR COUNT EDITS
unfoldable pub head_in : List ℕ → List (List ℕ) → Result Head ScriptRefusal
head_in word words = do
  number ← ok_or (number_of word) refusal.Word
  w ← two words
  count ← natural_in 0 greatest w.0
  edits ← natural_in 1 batch_limit w.1
  actor ← natural_in 0 greatest word
  Ok (record { actor = actor; count = count; edits = edits })

-- COUNT behind the word end
unfoldable pub last_in : List (List ℕ) → Result Line ScriptRefusal
last_in words = do
  word ← one words
  count ← natural_in 0 greatest word
  Ok (line.Last count)

-- an entry, which in version 1 is an edit, and in version 2 a batch
abbrev pub entry_in : Version → List ℕ → List (List ℕ) → Result Line ScriptRefusal
entry_in version.One word words = told_in word words >>= λ told. Ok (line.Single told)
entry_in version.Two word words = head_in word words >>= λ head. Ok (line.Batch head)

-- what the words of a line say
abbrev pub words_in : Version → List (List ℕ) → Result Line ScriptRefusal
words_in v [] = Err refusal.Word
words_in v (word ∷ words) = if is_text word (codes "end") then last_in words
    else entry_in v word words

-- what a line says that is none of a batch
abbrev pub line_in : Version → List ℕ → Result Line ScriptRefusal
line_in v text = guard (is_plain text) refusal.Word >>= λ plain. words_in v (words_of text)
