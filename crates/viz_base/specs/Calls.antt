-- The calls of a port, each with its answer (docs/DEFINITIONS.md, "The outside").
use Rattle.std.specs.Prelude.{ℕ, List, [], ◌∷◌, Result, Ok, Err}
use Rattle.viz_base.specs.declared.call.Call.{Call}
use Rattle.viz_base.specs.declared.call.Call.TheVariants.{Read, Write}
use Rattle.viz_base.specs.declared.call.ReadAnswer.TheVariants as read
use Rattle.viz_base.specs.declared.call.WriteAnswer.TheVariants as write
use Rattle.viz_base.specs.declared.refusal.ReadRefusal.{ReadRefusal}
use Rattle.viz_base.specs.declared.refusal.ReadRefusal.TheVariants as reading
use Rattle.viz_base.specs.declared.refusal.WriteRefusal.{WriteRefusal}
use Rattle.viz_base.specs.declared.refusal.WriteRefusal.TheVariants as writing

-- what a read adds to the list of calls: nothing for want of memory
abbrev pub read_calls : List ℕ → Result (List ℕ) ReadRefusal → List Call
read_calls name (Ok bytes) = Read name (read.Given bytes) ∷ []
read_calls name (Err (reading.TooLong taken)) = Read name (read.TooLong taken) ∷ []
read_calls name (Err reading.Failed) = Read name read.Failed ∷ []
read_calls name (Err reading.Memory) = []

-- what a write adds to the list of calls: nothing for want of memory
abbrev pub write_calls : List ℕ → List ℕ → Result (Unit {0}) WriteRefusal → List Call
write_calls name bytes (Ok done) = Write name bytes write.Written ∷ []
write_calls name bytes (Err writing.Failed) = Write name bytes write.Failed ∷ []
write_calls name bytes (Err writing.Memory) = []

-- the names and bytes of the writes that answered Ok
abbrev pub writes_of : List Call → List (List ℕ × List ℕ)
writes_of [] = []
writes_of (Read name answer ∷ calls) = writes_of calls
writes_of (Write name bytes write.Written ∷ calls) = (name, bytes) ∷ writes_of calls
writes_of (Write name bytes write.Failed ∷ calls) = writes_of calls
