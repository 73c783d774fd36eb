-- Names of points, as filters see them.
use Rattle.std.specs.Prelude.{ℕ, List}

-- a name is the list of its leaves
abbrev pub Name : Type 0
Name = List ℕ
