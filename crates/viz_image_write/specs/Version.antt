-- The version of a written file (VTK's documentation, "VTK File Formats";
-- docs/FORMATS-OF-OUTPUT.md, "Written files").
use Rattle.std.specs.Prelude.{ℕ, ◌==◌, ◌||◌, Bool, true, false, List, codes}

-- whether files of this version are written: 3 is version 3.0, and 5 is version 5.1
abbrev pub is_version : ℕ → Bool
is_version version = version == 3 || version == 5

-- whether a file of this version is one of version 5.1, and not of version 3.0
abbrev pub is_later : ℕ → Bool
is_later version = version == 5

-- the first line
unfoldable pub version_line : Bool → List ℕ
version_line true = codes "# vtk DataFile Version 5.1\n"
version_line false = codes "# vtk DataFile Version 3.0\n"
