-- The answers of a session, and their text (docs/FORMATS-OF-SCRIPTS.md, "Sessions").
use Rattle.std.specs.Prelude.{ℕ, List, [], ◌∷◌, ◌++◌, flat_map, codes}
use Rattle.viz_words.specs.declared.refusal.ScriptRefusal.{ScriptRefusal}
use Rattle.viz_words.specs.Refusals.{refusal_word}
use Rattle.viz_script.specs.Orders.{Asked}
use Rattle.viz_report.specs.declared.line.Line.{Line}
use Rattle.viz_report.specs.declared.line.Line.TheVariants as line
use Rattle.viz_report.specs.Report.{and_number, at_text, word_of, behind}
use Rattle.viz_console.specs.Lines.{Due}
use Rattle.viz_console.specs.Lines as due

-- an answer: that a line is bad, or the line of the report of a command, which has this number
pub data Reply : Type 0 where
  bad : ℕ → ScriptRefusal → Reply
  tells : ℕ → Asked → Line → Reply

-- what it answers
abbrev pub due_of : Reply → Due
due_of (bad number r) = due.bad number r
due_of (tells number asked l) = due.serve number asked

-- the commands among what is answered, and their lines
abbrev pub command_of : Reply → List Asked
command_of (bad number r) = []
command_of (tells number asked l) = asked ∷ []

abbrev pub line_of : Reply → List Line
line_of (bad number r) = []
line_of (tells number asked l) = l ∷ []

abbrev pub commands : List Reply → List Asked
commands replies = flat_map command_of replies

abbrev pub lines_told : List Reply → List Line
lines_told replies = flat_map line_of replies

-- ---- the text

-- what stands behind the number of a command: of a file no number of nodes that ran
abbrev pub told_behind : Line → List ℕ
told_behind (line.File at cells points ran) = at_text at ++ and_number (codes " cells ") cells
    ++ and_number (codes " points ") points
told_behind l = behind l

-- that a line is bad
unfoldable pub bad_text : ℕ → ScriptRefusal → List ℕ
bad_text number r = and_number (codes "bad ") number ++ codes " " ++ refusal_word r ++ codes "\n"

-- the line of a command
unfoldable pub told_text : ℕ → Line → List ℕ
told_text number l = word_of l ++ and_number (codes " ") number ++ told_behind l ++ codes "\n"

abbrev pub reply_text : Reply → List ℕ
reply_text (bad number r) = bad_text number r
reply_text (tells number asked l) = told_text number l

-- the text of answers, one after the other
abbrev pub text_of : List Reply → List ℕ
text_of replies = flat_map reply_text replies
