-- What contracts see of a port to a folder: nothing of what lies in the folder
-- (docs/DEFINITIONS.md, "The outside").
use Rattle.std.specs.Prelude.{ℕ, List}

-- the folder's path, the greatest length that is read, and how many calls failed
pub record Folder : Type 0 where
  pub path : List ℕ
  pub limit : ℕ
  pub faults : ℕ
