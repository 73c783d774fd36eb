-- Files kept in memory, a list of names and bytes (docs/DEFINITIONS.md, "The outside").
use Rattle.std.specs.Prelude.{◌≡◌, ℕ, ◌+◌, ◌<◌, List, [], ◌∷◌, length, take, slice_index_or}
use Rattle.std.specs.Prelude.{Option, Some, None, if◌then◌else◌, nat_lt, Result, Ok, Err}
use Rattle.std.specs.Str.{bytes_eq}
use Rattle.viz_base.specs.declared.refusal.ReadRefusal.{ReadRefusal}
use Rattle.viz_base.specs.declared.refusal.ReadRefusal.TheVariants.{Failed, TooLong}
use Rattle.viz_base.specs.declared.memory_port.FileEntry.{FileEntry}
use Rattle.viz_base.specs.Files.{Files, SameOthers}

-- the bytes of the first file with this name
abbrev pub file_at : List FileEntry → Files
file_at [] name = None
file_at (file ∷ files) name = if bytes_eq file.name name then Some file.bytes
    else file_at files name

-- what a read answers of a file, or of none
abbrev pub read_of : Option (List ℕ) → ℕ → Result (List ℕ) ReadRefusal
read_of None limit = Err Failed
read_of (Some bytes) limit = if nat_lt limit (length bytes) then Err (TooLong (limit + 1))
    else Ok bytes

-- the first file with this name is at this place
pub record IsFirst (files : List FileEntry) (name : List ℕ) (i : ℕ) : Type 0 where
  pub within : i < length files
  pub named : (d : FileEntry) → (slice_index_or files i d).name ≡ name
  pub before : file_at (take i files) name ≡ None

-- the place of the first file with this name, if there is one
abbrev pub IsPlace : List FileEntry → List ℕ → Option ℕ → Type 0
IsPlace files name (Some i) = IsFirst files name i
IsPlace files name None = file_at files name ≡ None

-- the file of this name has these bytes, and each other file is as before
pub record Puts (old new : List FileEntry) (name bytes : List ℕ) : Type 0 where
  pub put : file_at new name ≡ Some bytes
  pub others : SameOthers name (file_at old) (file_at new)
