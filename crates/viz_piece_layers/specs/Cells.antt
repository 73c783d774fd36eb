-- Cells by the names of their points.
use Rattle.std.specs.Prelude.{ℕ, List}

-- a name is the list of its leaves
abbrev pub Name : Type 0
Name = List ℕ

-- a cell is a list of names
abbrev pub Cell : Type 0
Cell = List Name
