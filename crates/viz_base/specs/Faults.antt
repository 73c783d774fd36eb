-- Counts of faults of the outside (docs/DEFINITIONS.md, "The outside").
use Rattle.std.specs.Prelude.{◌≡◌, ℕ, ◌+◌, ◌-◌, ◌^◌, ◌<◌, ◌⊎◌, List, Result, Ok, Err, min}
use Rattle.viz_base.specs.declared.refusal.ReadRefusal.{ReadRefusal}
use Rattle.viz_base.specs.declared.refusal.ReadRefusal.TheVariants as reading
use Rattle.viz_base.specs.declared.refusal.WriteRefusal.{WriteRefusal}
use Rattle.viz_base.specs.declared.refusal.WriteRefusal.TheVariants as writing

-- the greatest count
abbrev pub most_faults : ℕ
most_faults = 2 ^ 64 - 1

-- a count rose: it is greater than before, or stands at the greatest u64
abbrev pub Rose : ℕ → ℕ → Type 0
Rose old new = (old < new) ⊎ (new ≡ most_faults)

-- the count after one more fault
abbrev pub one_more : ℕ → ℕ
one_more count = min (count + 1) most_faults

-- the count after a read of a port that counts each failure once
abbrev pub read_faults : ℕ → Result (List ℕ) ReadRefusal → ℕ
read_faults count (Ok bytes) = count
read_faults count (Err (reading.TooLong taken)) = count
read_faults count (Err reading.Failed) = one_more count
read_faults count (Err reading.Memory) = count

-- the count after a write, or a put, where each failure is counted once
abbrev pub write_faults : ℕ → Result (Unit {0}) WriteRefusal → ℕ
write_faults count (Ok done) = count
write_faults count (Err writing.Failed) = one_more count
write_faults count (Err writing.Memory) = count

-- the count of answers after a put: want of memory isn't counted
abbrev pub answers_after : ℕ → Result (Unit {0}) WriteRefusal → ℕ
answers_after count (Ok done) = one_more count
answers_after count (Err writing.Failed) = one_more count
answers_after count (Err writing.Memory) = count
