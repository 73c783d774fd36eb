-- What the code keeps of the lines that it has read: words of private contracts alone.
use Rattle.std.specs.Prelude.{◌≡◌, ℕ, ◌+◌, ◌-◌, ◌<◌, ◌≤◌, List, [], ◌∷◌, ◌++◌, map, length, get_or, set}
use Rattle.std.specs.Prelude.{Option, None, Some, option_map, is_some, Result, Ok, Err, Bool}
use Rattle.std.specs.List.{list_any}
use Rattle.viz_network.specs.declared.edit.Edit.{Edit}
use Rattle.viz_batches.specs.Batches.{batch_limit}
use Rattle.viz_words.specs.declared.refusal.ScriptRefusal.{ScriptRefusal}
use Rattle.viz_words.specs.declared.refusal.ScriptStop.{ScriptStop}
use Rattle.viz_words.specs.declared.refusal.ScriptStop.TheVariants.{Refused, Memory}
use Rattle.viz_words.specs.Gives.{◌>>=◌}
use Rattle.viz_words.specs.Lines.{lines_of}
use Rattle.viz_script.specs.declared.order.Order.{Order}
use Rattle.viz_script.specs.declared.parser.OpenStep.{OpenStep}
use Rattle.viz_script.specs.declared.parser.OpenBatch.{OpenBatch}
use Rattle.viz_script.specs.declared.parser.Parser.{Parser}
use Rattle.viz_script.specs.Orders.{Asked, edits, seen}
use Rattle.viz_script.specs.Lines.{Line, actor_limit}
use Rattle.viz_script.specs.Batches.{phase_limit, phase_behind, open_behind, standing}
use Rattle.viz_script.specs.Script.{Stepped, Stop, batch_in, steps_behind, steps_of, lines_behind}
use Rattle.viz_script.specs.Steps.Heard.{IsActor}

-- the open batch of an actor in the table of all actors
abbrev pub batch_of : ℕ → List (Option OpenBatch) → Option OpenBatch
batch_of actor batches = get_or batches (actor - 1) None

-- the edits of an open batch, and the index of its step
abbrev pub edits_of : Option OpenBatch → Option (List Edit)
edits_of batch = option_map (λ b. b.edits.items) batch

abbrev pub index_of : Option OpenBatch → Option ℕ
index_of batch = option_map (λ b. b.index) batch

-- the batch has one edit more
pub record IsLonger (e : Edit) (old new : OpenBatch) : Type 0 where
  pub index : new.index ≡ old.index
  pub edits : new.edits.items ≡ old.edits.items ++ e ∷ []

-- the open batch of an actor, if it has one, has one edit more
abbrev pub IsAdded : ℕ → Edit → List (Option OpenBatch) → List (Option OpenBatch) → Type 0
IsAdded actor e old new = (b : OpenBatch) → batch_of actor old ≡ Some b
    → (longer : OpenBatch) × (new ≡ set old (actor - 1) (Some longer)) × IsLonger e b longer

-- the edits that there are so far
abbrev pub so_far : Option (List Edit) → List Edit
so_far None = []
so_far (Some es) = es

-- what a step asks for in the end, where its actor's batch has these edits so far, and those behind
abbrev pub asked_of : List Edit → List Edit → Option Order → Asked
asked_of front behind None = edits (front ++ behind)
asked_of front behind (Some order) = seen order

-- a step in the end, where these lines were read and those are left
abbrev pub finished : List Line → List Line → OpenStep → Stepped
finished earlier later d = record {
  phase = d.phase;
  actor = d.actor;
  line = d.line;
  asked = asked_of (so_far (open_behind d.actor earlier)) (batch_in d.actor later) d.order;
}

-- the step with this order
abbrev pub with_order : OpenStep → Order → OpenStep
with_order d order = record {
  phase = d.phase;
  actor = d.actor;
  line = d.line;
  order = Some order;
}

-- a step with this order, if it is one
abbrev pub step_with : OpenStep → Option Order → List Stepped
step_with d None = []
step_with d (Some order) = record {
  phase = d.phase;
  actor = d.actor;
  line = d.line;
  asked = seen order;
} ∷ []

-- a step, where it has an order
abbrev pub step_in : OpenStep → List Stepped
step_in d = step_with d d.order

-- the lines in front, the nearest of which is the first, and those behind them, in order
abbrev pub in_order : List Line → List Line → List Line
in_order [] later = later
in_order (line ∷ earlier) later = in_order earlier (line ∷ later)

-- each step without an order is that of its actor's open batch
abbrev pub ArePlaced : List OpenStep → List (Option OpenBatch) → Type 0
ArePlaced steps batches = (k : ℕ) (d : OpenStep) → k < length steps
    → (get_or steps k d).order ≡ None
    → IsActor (get_or steps k d).actor
    × (index_of (batch_of (get_or steps k d).actor batches) ≡ Some k)

-- the step of an actor's open batch has no order yet
pub record IsStepOf (actor index : ℕ) (steps : List OpenStep) : Type 0 where
  pub within : index < length steps
  pub begun : (d : OpenStep) → (get_or steps index d).order ≡ None
  pub own : (d : OpenStep) → (get_or steps index d).actor ≡ actor

-- these lines were read, the nearest of which is the first, and this is kept of them
pub record IsRead (earlier : List Line) (phase : ℕ) (steps : List OpenStep)
    (batches : List (Option OpenBatch)) : Type 0 where
  pub at_phase : phase ≡ phase_behind earlier
  pub few : phase ≤ phase_limit
  pub wide : length batches ≡ actor_limit
  pub same : (actor : ℕ) → IsActor actor
      → edits_of (batch_of actor batches) ≡ open_behind actor earlier
  pub sized : (actor : ℕ) → length (so_far (open_behind actor earlier)) ≤ batch_limit
  pub placed : ArePlaced steps batches
  pub begun : (actor index : ℕ) → IsActor actor
      → index_of (batch_of actor batches) ≡ Some index → IsStepOf actor index steps
  pub drawn : (later : List Line) → map (finished earlier later) steps
      ++ steps_behind earlier later ≡ steps_of (in_order earlier later)

-- the same of what the code keeps
abbrev pub KeepsRead : List Line → Parser → Type 0
KeepsRead earlier r = IsRead earlier r.phase r.steps.items r.batches

-- some lines were read
abbrev pub IsParsing : Parser → Type 0
IsParsing r = (earlier : List Line) × KeepsRead earlier r

-- the next line, of this number, was taken, or refused as it says
abbrev pub Goes : ℕ → Result (Unit {0}) ScriptStop → Parser → Parser
    → Result Line ScriptRefusal → Type 0
Goes number (Ok done) old new said = (earlier : List Line) → KeepsRead earlier old
    → number ≡ length earlier + 1
    → (line : Line) × ((said >>= standing earlier) ≡ Ok line) × KeepsRead (line ∷ earlier) new
Goes number (Err (Refused at refusal)) old new said = (earlier : List Line)
    → KeepsRead earlier old → number ≡ length earlier + 1
    → (at ≡ number) × ((said >>= standing earlier) ≡ Err refusal)
Goes number (Err Memory) old new said = Unit {0}

-- a batch is open in the table
abbrev pub some_begun : List (Option OpenBatch) → Bool
some_begun batches = list_any is_some batches

-- the lines in front of those that are read behind them
abbrev pub behind : List Line → Result (List Line) Stop → Result (List Line) Stop
behind earlier (Ok later) = Ok (in_order earlier later)
behind earlier (Err stop) = Err stop

-- some lines of all were read, and those that are left are read behind them
pub record IsSoFar (actors : ℕ) (text rest : List ℕ) (number lines : ℕ) (r : Parser) : Type 0
  where
    pub earlier : List Line
    pub kept : KeepsRead earlier r
    pub counted : number ≡ length earlier
    pub left : number + length (lines_of rest) ≡ lines
    pub all : behind earlier (lines_behind actors earlier (lines_of rest))
        ≡ lines_behind actors [] (lines_of text)

-- the steps that the definition gives, or the refusal that it gives, unless memory ran out
abbrev pub ReadsSteps : {S : Type 0} → (S → List Stepped) → Result S ScriptStop
    → Result (List Stepped) Stop → Type 0
ReadsSteps view (Ok steps) read = read ≡ Ok (view steps)
ReadsSteps view (Err (Refused line refusal)) read = read ≡ Err (line, refusal)
ReadsSteps view (Err Memory) read = Unit {0}
