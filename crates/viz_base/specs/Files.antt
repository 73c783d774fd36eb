-- Files by name, as a port tells them (docs/DEFINITIONS.md, "The outside").
use Rattle.std.specs.Prelude.{◌≡◌, ◌≢◌, ℕ, ◌<◌, List, length, take, Option, Some}
use Rattle.viz_base.specs.Names.{IsName}

-- the bytes of each file that is there
abbrev pub Files : Type 0
Files = List ℕ → Option (List ℕ)

-- each file is as before
abbrev pub SameFiles : Files → Files → Type 0
SameFiles old new = (name : List ℕ) → new name ≡ old name

-- each file of another name is as before
abbrev pub SameOthers : List ℕ → Files → Files → Type 0
SameOthers name old new = (other : List ℕ) → other ≢ name → new other ≡ old other

-- the file has more bytes than the limit
abbrev pub IsLonger : Files → List ℕ → ℕ → Type 0
IsLonger files name limit = (bytes : List ℕ) × (files name ≡ Some bytes) × (limit < length bytes)

-- after a failed write the file holds the first bytes of it, where a file can have the name
abbrev pub KeepsPrefix : List ℕ → List ℕ → Files → Type 0
KeepsPrefix name bytes new = IsName name → (kept : ℕ) × (new name ≡ Some (take kept bytes))
