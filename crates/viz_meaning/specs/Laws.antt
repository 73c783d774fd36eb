-- What the names of a section are: the set of the names of its cells, in ascending order
-- (docs/FORMATS-OF-FILTERS.md, "Names of a section").
use Rattle.std.specs.Prelude.{◌≡◌, ◌↔◌, ℕ, List, ◌++◌, length, Contains}
use Rattle.std.specs.List.{flat_map}
use Rattle.viz_fraction.specs.declared.forms.Form.{Form}
use Rattle.viz_sheet.specs.Sheet.{SheetData, AreAscending}
use Rattle.viz_meaning.specs.Names.{edge_name, lesser_end, greater_end, names_of}
use Rattle.viz_meaning.specs.Section.{section_of}

-- the names of a section ascend
abbrev pub SectionNamesAscend : Type 0
SectionNamesAscend = (f : Form) (s : SheetData) → AreAscending (section_of f s).names

-- a name is among them just where a cell of the section has it
abbrev pub SectionNamesAreUsed : Type 0
SectionNamesAreUsed =
    (f : Form) (s : SheetData) (n : List ℕ) → Contains (section_of f s).names n
    ↔ Contains (flat_map (λ cell. cell) (section_of f s).cells) n

-- each name has a point
abbrev pub SectionNamesHavePoints : Type 0
SectionNamesHavePoints = (f : Form) (s : SheetData)
    → length (section_of f s).points ≡ length (section_of f s).names

-- names that ascend and are just those of cells are the names of these cells
abbrev pub NamesAreDetermined : Type 0
NamesAreDetermined =
    (names : List (List ℕ)) (cells : List (List (List ℕ))) → AreAscending names
    → ((n : List ℕ) → Contains names n ↔ Contains (flat_map (λ cell. cell) cells) n)
    → names ≡ names_of cells

-- an edge has one name, in whichever order its ends are named
abbrev pub EdgeHasOneName : Type 0
EdgeHasOneName = (m n : List ℕ) → edge_name m n ≡ edge_name n m

-- both ends of a pair of names of one length
pub record HasEnds (m n : List ℕ) : Type 0 where
  pub lesser : lesser_end (m ++ n) ≡ m
  pub greater : greater_end (m ++ n) ≡ n

-- a pair of names of one length has these two as its ends
abbrev pub PairsHaveEnds : Type 0
PairsHaveEnds = (m n : List ℕ) → length m ≡ length n → HasEnds m n
