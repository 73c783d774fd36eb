-- What the lines of a session ask for (docs/FORMATS-OF-SCRIPTS.md, "Sessions").
use Rattle.std.specs.Prelude.{ℕ, ◌+◌, Bool, true, false, ◌||◌, List, [], ◌∷◌, ◌++◌, codes}
use Rattle.std.specs.Prelude.{Option, None, Some, is_some, Result, Ok, Err, if◌then◌else◌}
use Rattle.viz_kinds.specs.Values.{is_text}
use Rattle.viz_network.specs.declared.edit.Edit.{Edit}
use Rattle.viz_words.specs.declared.refusal.ScriptRefusal.{ScriptRefusal}
use Rattle.viz_words.specs.declared.refusal.ScriptRefusal.TheVariants as refusal
use Rattle.viz_words.specs.declared.command.Verb.{Verb}
use Rattle.viz_words.specs.declared.command.Verb.TheVariants as verb
use Rattle.viz_words.specs.Gives.{◌>>=◌, guard}
use Rattle.viz_words.specs.Lines.{is_plain}
use Rattle.viz_words.specs.Words.{words_of, is_skipped}
use Rattle.viz_words.specs.Commands.{verb_of}
use Rattle.viz_script.specs.Orders.{Asked, edit, edits, order_in}
use Rattle.viz_script.specs.Batches.{is_endless, is_full}

-- ---- one line by itself

-- what a line asks for: nothing, the end of the session, that a batch begins or ends, or a command
pub data Demand : Type 0 where
  nothing : Demand
  quits : Demand
  begins : Demand
  ends : Demand
  asks : Asked → Demand

-- a demand that has no further words
abbrev pub alone : Demand → List (List ℕ) → Result Demand ScriptRefusal
alone demand [] = Ok demand
alone demand (word ∷ words) = Err refusal.Arity

-- what a command asks for with the words behind it
abbrev pub command_in : Verb → List (List ℕ) → Result Demand ScriptRefusal
command_in verb.Begin words = alone begins words
command_in verb.End words = alone ends words
command_in v words = order_in v words >>= λ asked. Ok (asks asked)

-- what the words of a line ask for
abbrev pub words_in : List (List ℕ) → Result Demand ScriptRefusal
words_in [] = Ok nothing
words_in (word ∷ words) = if is_text word (codes "quit") then alone quits words
    else (verb_of (word ∷ words) >>= λ v. command_in v words)

-- what a line asks for, or its own first refusal
abbrev pub line_in : List ℕ → Result Demand ScriptRefusal
line_in line = if is_skipped line then Ok nothing
    else (guard (is_plain line) refusal.Word >>= λ plain. words_in (words_of line))

-- the same; None is a line of more than 4,096 bytes
abbrev pub own_in : Option (List ℕ) → Result Demand ScriptRefusal
own_in None = Err refusal.TooLong
own_in (Some line) = line_in line

-- ---- one line behind others, where a batch may be open: its edits so far

-- whether the demand may not come then for the sake of the batch
abbrev pub breaks_batch : Option (List Edit) → Demand → Bool
breaks_batch batch nothing = false
breaks_batch batch quits = is_some batch
breaks_batch batch begins = is_some batch
breaks_batch batch ends = is_endless batch
breaks_batch batch (asks (edit e)) = is_full batch
breaks_batch batch (asks asked) = is_some batch

-- a demand that may come then, or why it may not
abbrev pub standing : Option (List Edit) → Demand → Result Demand ScriptRefusal
standing batch demand = if breaks_batch batch demand then Err refusal.Batch else Ok demand

-- the same, where a line may have a refusal of its own
abbrev pub stood : Option (List Edit) → Result Demand ScriptRefusal → Result Demand ScriptRefusal
stood batch demanded = demanded >>= standing batch

-- what a line demands there, or why it is refused
abbrev pub demand_in : Option (List Edit) → Option (List ℕ) → Result Demand ScriptRefusal
demand_in batch line = stood batch (own_in line)

-- the batch that is open behind a demand
abbrev pub batch_behind : Option (List Edit) → Demand → Option (List Edit)
batch_behind batch nothing = batch
batch_behind batch quits = batch
batch_behind batch begins = Some []
batch_behind batch ends = None
batch_behind (Some es) (asks (edit e)) = Some (es ++ e ∷ [])
batch_behind (Some es) (asks asked) = Some es
batch_behind None (asks asked) = None

-- the command that a demand completes: a batch from its begin to its end is one
abbrev pub completed : Option (List Edit) → Demand → Option Asked
completed None (asks asked) = Some asked
completed (Some es) ends = Some (edits es)
completed batch demand = None

-- whether a line quits the session
abbrev pub is_quit : Result Demand ScriptRefusal → Bool
is_quit (Ok quits) = true
is_quit demanded = false

-- ---- lines, one after the other

-- where a session stands: how many lines were read, how many commands were well formed, and the
-- open batch
pub record Place : Type 0 where
  pub lines : ℕ
  pub commands : ℕ
  pub batch : Option (List Edit)

-- where it begins
abbrev pub start : Place
start = record { lines = 0; commands = 0; batch = None }

-- how many commands these are
abbrev pub count_of : Option Asked → ℕ
count_of None = 0
count_of (Some asked) = 1

-- where it stands behind the next line, which demands this; a line that is refused changes nothing
abbrev pub behind : Place → Result Demand ScriptRefusal → Place
behind p (Err r) = record { lines = p.lines + 1; commands = p.commands; batch = p.batch }
behind p (Ok demand) = record {
  lines = p.lines + 1;
  commands = p.commands + count_of (completed p.batch demand);
  batch = batch_behind p.batch demand;
}

-- what is due to be answered: that the line of this number is bad, or what becomes of the command
-- of this number
pub data Due : Type 0 where
  bad : ℕ → ScriptRefusal → Due
  serve : ℕ → Asked → Due

-- a command of this number, if there is one
abbrev pub served : ℕ → Option Asked → List Due
served number None = []
served number (Some asked) = serve number asked ∷ []

-- what is due for the next line, which demands this
abbrev pub due : Place → Result Demand ScriptRefusal → List Due
due p (Err r) = bad (p.lines + 1) r ∷ []
due p (Ok demand) = served (p.commands + 1) (completed p.batch demand)

-- what is due for lines, up to the first that quits
abbrev pub dues : Place → List (Option (List ℕ)) → List Due
dues p [] = []
dues p (line ∷ lines) = if is_quit (demand_in p.batch line) then []
    else due p (demand_in p.batch line) ++ dues (behind p (demand_in p.batch line)) lines

-- whether one of the lines quits
abbrev pub has_quit : Place → List (Option (List ℕ)) → Bool
has_quit p [] = false
has_quit p (line ∷ lines) = is_quit (demand_in p.batch line)
    || has_quit (behind p (demand_in p.batch line)) lines
