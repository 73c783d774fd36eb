-- Sheets: cells by the names of their points, where VTK has point ids (VTK User's Guide, "Simple
-- legacy formats").
use Rattle.std.specs.Prelude.{◌≡◌, ◌≢◌, ◌↔◌, ℕ, ◌<◌, ◌≤◌, ◌==◌, if◌then◌else◌, List, [], ◌∷◌}
use Rattle.std.specs.Prelude.{length, All, Contains, slice_index_or}
use Rattle.std.specs.List.{flat_map}
use Rattle.std.specs.List.Sorted.{IsStrictlySortedBy}
use Rattle.std.specs.Cmp.Lexicographic.{slice_cmp}
use Rattle.std.specs.Ordering.{nat_cmp}
use Rattle.viz_fraction.specs.Points.{Point}

-- what is seen of a sheet: names, the point of each, and cells by the names of their points; a
-- name is the list of its leaves
pub record SheetData : Type 0 where
  pub names : List (List ℕ)
  pub points : List Point
  pub cells : List (List (List ℕ))

-- each name comes before those behind it, leaf by leaf from the left
abbrev pub AreAscending : List (List ℕ) → Type 0
AreAscending names = IsStrictlySortedBy (slice_cmp nat_cmp) names

-- no two items are the same
abbrev pub AreApart : {X : Type 0} → List X → Type 0
AreApart [] = Unit {0}
AreApart (x ∷ xs) = All (λ y. x ≢ y) xs × AreApart xs

-- a cell by names: 1 to 4 different ones
pub record IsNamedCell (cell : List (List ℕ)) : Type 0 where
  pub some : 1 ≤ length cell
  pub most : length cell ≤ 4
  pub apart : AreApart cell

-- the rule of a sheet: names that ascend, a point for each, and cells whose names are just these
pub record IsSheet (s : SheetData) : Type 0 where
  pub ascending : AreAscending s.names
  pub matched : length s.points ≡ length s.names
  pub each : All IsNamedCell s.cells
  pub used : (n : List ℕ) → Contains s.names n ↔ Contains (flat_map (λ cell. cell) s.cells) n

-- sheets with equal cells have equal names
abbrev pub CellsDetermineNames : Type 0
CellsDetermineNames = (s t : SheetData) → IsSheet s → IsSheet t → s.cells ≡ t.cells
    → s.names ≡ t.names

-- each of the names is one of the others, and has the point that it has there
abbrev pub KeepPoints : List (List ℕ) → List Point → List (List ℕ) → List Point → Type 0
KeepPoints names points others places =
    (k : ℕ) (d : Point) → k < length names
    → (r : ℕ) × (r < length others) × (slice_index_or names k [] ≡ slice_index_or others r [])
    × (slice_index_or points k d ≡ slice_index_or places r d)

-- how many names a cell may have, whose names have so many leaves: 4 of one leaf, and one fewer at
-- each level
abbrev pub most_names : ℕ → ℕ
most_names leaves = if leaves == 1 then 4 else
    (if leaves == 2 then 3 else (if leaves == 4 then 2 else 1))

-- a sheet fits: its cells are so small that sections of it, one after the other, end before names
-- have more than 8 leaves
pub record IsFit (s : SheetData) : Type 0 where
  pub each : All (λ cell. All (λ n. length cell ≤ most_names (length n)) cell) s.cells
