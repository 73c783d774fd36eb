-- What a read of a file outside answers (docs/DEFINITIONS.md, "The outside").
use Rattle.std.specs.Prelude.{◌≡◌, ℕ, ◌+◌, ◌≤◌, List, length, Result, Ok, Err}
use Rattle.viz_base.specs.declared.refusal.ReadRefusal.{ReadRefusal}
use Rattle.viz_base.specs.declared.refusal.ReadRefusal.TheVariants.{Failed, TooLong, Memory}

-- the file was not found too long
abbrev pub NeverTooLong : {A : Type 0} → Result A ReadRefusal → Type 0
NeverTooLong (Ok x) = Unit {0}
NeverTooLong (Err Failed) = Unit {0}
NeverTooLong (Err (TooLong taken)) = ⊥
NeverTooLong (Err Memory) = Unit {0}

-- the bytes are within the limit, or so many as the limit and one more were taken
abbrev pub IsWithin : ℕ → Result (List ℕ) ReadRefusal → Type 0
IsWithin limit (Ok bytes) = length bytes ≤ limit
IsWithin limit (Err Failed) = Unit {0}
IsWithin limit (Err (TooLong taken)) = taken ≡ limit + 1
IsWithin limit (Err Memory) = Unit {0}
