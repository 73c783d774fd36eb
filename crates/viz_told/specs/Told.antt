-- How a run is told: one text, put once, and a status (docs/FORMATS.md, "Report").
use Rattle.std.specs.Prelude.{◌≡◌, ℕ, ◌≤◌, Bool, false, List, ◌++◌, ◌⊎◌, Result, Ok, Err, IsTrue}
use Rattle.viz_base.specs.Faults.{Rose, one_more, answers_after}
use Rattle.viz_base.specs.Texts.{AppendsPrefix}
use Rattle.viz_base.specs.declared.out.Out as out
use Rattle.viz_base.specs.declared.refusal.WriteRefusal.{WriteRefusal}
use Rattle.viz_base.specs.declared.refusal.WriteRefusal.TheVariants as writing
use Rattle.viz_told.specs.declared.status.Status.{Status}
use Rattle.viz_told.specs.declared.status.Status.TheVariants as status
use Rattle.viz_told.specs.declared.text.Text.{Text}
use Rattle.viz_told.specs.declared.text.Text.TheVariants as text
use Rattle.viz_told.specs.Lines.{memory_line}

-- the bytes of a text
abbrev pub bytes_of : Text → List ℕ
bytes_of (text.Fixed bytes) = bytes.now
bytes_of (text.Made bytes) = bytes

-- what is told of an outcome: its text, the status where the whole text is put, and whether the
-- text takes memory
pub record Telling : Type 0 where
  pub text : List ℕ
  pub status : Status
  pub is_made : Bool

-- what is told of want of memory
abbrev pub memory_told : Telling
memory_told = record { text = memory_line; status = status.Memory; is_made = false }

-- ---- the status

-- the status where the put failed: Usage, Script and Memory stay
abbrev pub status_at_fault : Status → Status
status_at_fault status.Usage = status.Usage
status_at_fault status.Script = status.Script
status_at_fault status.Memory = status.Memory
status_at_fault s = status.Fault

-- the status where memory ran out at the put: Usage stays
abbrev pub status_at_memory : Status → Status
status_at_memory status.Usage = status.Usage
status_at_memory s = status.Memory

-- the status by what the put answered
abbrev pub status_after : Status → Result (Unit {0}) WriteRefusal → Status
status_after s (Ok done) = s
status_after s (Err writing.Failed) = status_at_fault s
status_after s (Err writing.Memory) = status_at_memory s

-- ---- the put

-- the text after a put, by its answer: all that was put, first bytes of it, or nothing more
abbrev pub TextAfter : List ℕ → Result (Unit {0}) WriteRefusal → List ℕ → List ℕ → Type 0
TextAfter put (Ok done) old new = new ≡ old ++ put
TextAfter put (Err writing.Failed) old new = AppendsPrefix old put new
TextAfter put (Err writing.Memory) old new = new ≡ old

-- a text was put once, with this answer
pub record IsPut {O : Type 0} (m : out.Ghosts O) (put : List ℕ)
    (answer : Result (Unit {0}) WriteRefusal) (old new : O) : Type 0 where
  pub text_after : IsTrue m.tells_text → TextAfter put answer (m.text old) (m.text new)
  pub cause : answer ≡ Err writing.Failed → Rose (m.faults old) (m.faults new)
  pub later : m.faults old ≤ m.faults new
  pub once : m.puts new ≡ one_more (m.puts old)
  pub answered : m.answered new ≡ answers_after (m.answered old) answer

-- this text was put once, and the status belongs to it
abbrev pub IsToldAs : {O : Type 0} → out.Ghosts O → Telling → Status → O → O → Type 0
IsToldAs m t ended old new =
    (answer : Result (Unit {0}) WriteRefusal) × (ended ≡ status_after t.status answer)
    × IsPut m t.text answer old new

-- an outcome was told; or want of memory in its place, where memory ran out at the making of its
-- text
abbrev pub IsTold : {O : Type 0} → out.Ghosts O → Telling → Status → O → O → Type 0
IsTold m t ended old new = IsToldAs m t ended old new
    ⊎ (IsTrue t.is_made × IsToldAs m memory_told ended old new)
