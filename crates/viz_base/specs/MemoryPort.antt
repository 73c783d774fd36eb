-- What contracts see of a port to files in memory, and what its next call answers
-- (docs/DEFINITIONS.md, "The outside").
use Rattle.std.specs.Prelude.{ℕ, ◌+◌, ◌==◌, List, [], ◌∷◌, length, take, Option, Some, None}
use Rattle.std.specs.Prelude.{is_some, if◌then◌else◌, Result, Ok, Err}
use Rattle.viz_base.specs.declared.refusal.ReadRefusal.{ReadRefusal}
use Rattle.viz_base.specs.declared.refusal.ReadRefusal.TheVariants as reading
use Rattle.viz_base.specs.declared.refusal.WriteRefusal.{WriteRefusal}
use Rattle.viz_base.specs.declared.refusal.WriteRefusal.TheVariants as writing
use Rattle.viz_base.specs.declared.memory_port.FailAt.{FailAt}
use Rattle.viz_base.specs.declared.memory_port.FileEntry.{FileEntry}
use Rattle.viz_base.specs.declared.call.Call.{Call}
use Rattle.viz_base.specs.Names.{is_name}
use Rattle.viz_base.specs.Entries.{file_at, read_of}

-- files, the greatest length that is read, the calls that are to fail, those made so far, and how
-- many failed
pub record Store : Type 0 where
  pub files : List FileEntry
  pub limit : ℕ
  pub failing : List FailAt
  pub calls : List Call
  pub faults : ℕ

-- how many bytes the call of this number keeps, where it is listed to fail
abbrev pub kept_at : List FailAt → ℕ → Option ℕ
kept_at [] call = None
kept_at (fail ∷ fails) call = if fail.call == call then Some fail.kept else kept_at fails call

-- how many bytes the next call keeps, where it is listed to fail
abbrev pub next_kept : Store → Option ℕ
next_kept port = kept_at port.failing (length port.calls + 1)

-- what the next call answers, if it reads this name and there is memory
abbrev pub next_read : Store → List ℕ → Result (List ℕ) ReadRefusal
next_read port name = if is_some (next_kept port) then Err reading.Failed
    else read_of (file_at port.files name) port.limit

-- what the next call answers, if it writes to this name and there is memory
abbrev pub next_write : Store → List ℕ → Result (Unit {0}) WriteRefusal
next_write port name = if is_some (next_kept port) then Err writing.Failed
    else (if is_name name then Ok tt else Err writing.Failed)

-- the bytes that a write leaves in the file: all, or as many as a listed call keeps
abbrev pub left_of : Option ℕ → List ℕ → List ℕ
left_of None bytes = bytes
left_of (Some kept) bytes = take kept bytes
