-- The steps of a script, or the first refusal of its first line that has one
-- (docs/FORMATS-OF-SCRIPTS.md, "Scripts").
use Rattle.std.specs.Prelude.{◌≡◌, ℕ, ◌+◌, Bool, ◌||◌, ◌==◌, nat_lt, List, [], ◌∷◌, ◌++◌, map}
use Rattle.std.specs.Prelude.{length, Result, Ok, Err, if◌then◌else◌}
use Rattle.std.specs.List.{AllByRecursion}
use Rattle.viz_network.specs.declared.edit.Edit.{Edit}
use Rattle.viz_words.specs.declared.refusal.ScriptRefusal.{ScriptRefusal}
use Rattle.viz_words.specs.declared.refusal.ScriptRefusal.TheVariants as refusal
use Rattle.viz_words.specs.declared.refusal.ScriptStop.{ScriptStop}
use Rattle.viz_words.specs.declared.refusal.ScriptStop.TheVariants.{Refused, Memory}
use Rattle.viz_words.specs.Gives.{◌>>=◌}
use Rattle.viz_words.specs.Lines.{lines_of}
use Rattle.viz_script.specs.declared.order.Step.{Step}
use Rattle.viz_script.specs.declared.order.Script.{Script}
use Rattle.viz_script.specs.Orders.{Asked, edit, edits, seen, NamesFile}
use Rattle.viz_script.specs.Lines.{Line, begins_batch, ends_batch, asks, line_in}
use Rattle.viz_script.specs.Batches.{phase_behind, is_open, some_open, standing}
pub use Rattle.viz_script.specs.Batches.{phase_limit}

-- ---- the lines of a script

-- a line and what is wrong with it
abbrev pub Stop : Type 0
Stop = ℕ × ScriptRefusal

-- the number of the line behind these
abbrev pub number_behind : List Line → ℕ
number_behind earlier = length earlier + 1

-- a line in front of others
abbrev pub with_line : Line → Result (List Line) Stop → Result (List Line) Stop
with_line line (Ok lines) = Ok (line ∷ lines)
with_line line (Err stop) = Err stop

-- a line of this number, and the lines behind it; or its refusal
abbrev pub then_lines : ℕ → (Line → Result (List Line) Stop) → Result Line ScriptRefusal
    → Result (List Line) Stop
then_lines number next (Ok line) = with_line line (next line)
then_lines number next (Err refusal) = Err (number, refusal)

-- what the lines behind these say, the nearest of which is the first; a batch that is open at the
-- end is refused at the last line
abbrev pub lines_behind : ℕ → List Line → List (List ℕ) → Result (List Line) Stop
lines_behind actors earlier [] = if some_open earlier then Err (length earlier, refusal.Batch)
    else Ok []
lines_behind actors earlier (text ∷ texts) = then_lines (number_behind earlier)
    (λ line. lines_behind actors (line ∷ earlier) texts)
    (line_in actors text >>= standing earlier)

-- ---- their steps

-- a command with the phase, the actor and the line that it stands at
pub record Stepped : Type 0 where
  pub phase : ℕ
  pub actor : ℕ
  pub line : ℕ
  pub asked : Asked

abbrev pub stepped : Step → Stepped
stepped s = record { phase = s.phase; actor = s.actor; line = s.line; asked = seen s.order }

-- a step that stands behind these lines
abbrev pub step_behind : List Line → ℕ → Asked → Stepped
step_behind earlier actor asked = record {
  phase = phase_behind earlier;
  actor = actor;
  line = number_behind earlier;
  asked = asked;
}

-- the edits of an actor in these lines, up to the end of its batch
abbrev pub batch_in : ℕ → List Line → List Edit
batch_in actor [] = []
batch_in actor (ends_batch a ∷ later) = if a == actor then [] else batch_in actor later
batch_in actor (asks a (edit e) ∷ later) = if a == actor then e ∷ batch_in actor later
    else batch_in actor later
batch_in actor (line ∷ later) = batch_in actor later

-- the step of a line, if it has one, with these lines in front of it and those behind it: a batch
-- where it begins, and a command that stands in no batch
abbrev pub step_of : List Line → Line → List Line → List Stepped
step_of earlier (begins_batch actor) later = step_behind earlier actor
    (edits (batch_in actor later)) ∷ []
step_of earlier (asks actor asked) later = if is_open actor earlier then []
    else step_behind earlier actor asked ∷ []
step_of earlier line later = []

-- the steps of lines that stand behind these
abbrev pub steps_behind : List Line → List Line → List Stepped
steps_behind earlier [] = []
steps_behind earlier (line ∷ later) = step_of earlier line later
    ++ steps_behind (line ∷ earlier) later

-- the steps of a script's lines
abbrev pub steps_of : List Line → List Stepped
steps_of lines = steps_behind [] lines

-- ---- the script

-- the greatest numbers of bytes and of lines
abbrev pub byte_limit : ℕ
byte_limit = 1048576

abbrev pub line_limit : ℕ
line_limit = 65536

-- more bytes or lines than a script has
abbrev pub is_too_long : List ℕ → Bool
is_too_long bytes = nat_lt byte_limit (length bytes) || nat_lt line_limit (length (lines_of bytes))

-- the steps of lines, or the refusal of one
abbrev pub told : Result (List Line) Stop → Result (List Stepped) Stop
told (Ok lines) = Ok (steps_of lines)
told (Err stop) = Err stop

-- the steps of a script with so many actors
abbrev pub script_of : ℕ → List ℕ → Result (List Stepped) Stop
script_of actors bytes = if is_too_long bytes then Err (0, refusal.TooLong)
    else told (lines_behind actors [] (lines_of bytes))

-- the script that the definition gives, or the refusal that it gives, unless memory ran out
abbrev pub Reads : Result Script ScriptStop → Result (List Stepped) Stop → Type 0
Reads (Ok script) read = read ≡ Ok (map stepped script.steps.items)
Reads (Err (Refused line refusal)) read = read ≡ Err (line, refusal)
Reads (Err Memory) read = Unit {0}

-- each command of the script that names a file has a file's name
abbrev pub NamesFiles : Script → Type 0
NamesFiles script = AllByRecursion (λ step. NamesFile (seen step.order)) script.steps.items
