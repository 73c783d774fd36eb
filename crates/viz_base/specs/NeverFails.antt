-- What contracts see of a port that never fails, where every name has a file (docs/DEFINITIONS.md,
-- "The outside").
use Rattle.std.specs.Prelude.{ℕ, List, [], unwrap_or}
use Rattle.viz_base.specs.declared.memory_port.FileEntry.{FileEntry}
use Rattle.viz_base.specs.declared.call.Call.{Call}
use Rattle.viz_base.specs.Entries.{file_at}

-- the files that were given or written, the greatest length that is read, and the calls made so far
pub record Present : Type 0 where
  pub files : List FileEntry
  pub limit : ℕ
  pub calls : List Call

-- the bytes of the file of this name, of which there are none where it was neither given nor
-- written
abbrev pub present_at : List FileEntry → List ℕ → List ℕ
present_at files name = unwrap_or (file_at files name) []
