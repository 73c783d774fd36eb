-- How the cells of a filter's result are found again among those that they may be made of.
use Rattle.std.specs.Prelude.{◌≡◌, ℕ, ◌+◌, ◌<◌, ◌⊎◌, Bool, List, [], ◌∷◌, length, filter, drop}
use Rattle.std.specs.Prelude.{take, replicate, slice_index_or}
use Rattle.std.specs.List.{flat_map}
use Rattle.viz_mesh_meaning.specs.Cells.{Cell}
use Rattle.viz_parts.specs.Parts.{PartSheetData}
use Rattle.viz_piece_filters.specs.Filters.{near_items}
use Rattle.viz_piece_filters.specs.HandedOn.{counts, handed_on}
use Rattle.viz_sheet.specs.Sheet.{SheetData, IsSheet, KeepPoints}

-- the cell at a place is this one
abbrev pub IsNext : List Cell → ℕ → Cell → Type 0
IsNext made at c = (at < length made) × (slice_index_or made at [] ≡ c)

-- from a place on behind a cell that is the next one, or it isn't
abbrev pub IsStep : List Cell → ℕ → Cell → ℕ → Type 0
IsStep made at c to = (IsNext made at c × (to ≡ at + 1)) ⊎ ((IsNext made at c → ⊥) × (to ≡ at))

-- the same of several cells, one after the other
abbrev pub Passes : List Cell → ℕ → List Cell → ℕ → Type 0
Passes made at [] to = to ≡ at
Passes made at (c ∷ cs) to = (mid : ℕ) × IsStep made at c mid × Passes made mid cs to

-- the cell itself
abbrev pub itself : Cell → List Cell
itself c = c ∷ []

-- of the cells that may be made of one, those that pass a test
abbrev pub passing : (Cell → List Cell) → (Cell → Bool) → Cell → List Cell
passing makes test c = filter test (makes c)

-- where a filter makes of each cell what passes some test, made cells have the levels of the cells
-- that they are made of
pub record AreHandedOn (makes : Cell → List Cell) (part : PartSheetData) (made : List Cell)
    (levels : List ℕ) : Type 0 where
  pub each : (test : Cell → Bool) → made ≡ flat_map (passing makes test) part.sheet.cells
      → levels ≡ handed_on part.levels (counts (passing makes test) part.sheet.cells)

-- the same of what is made of the first cells, so many, which ends at a place
pub record AreHandedTo (makes : Cell → List Cell) (part : PartSheetData) (made : List Cell)
    (count at : ℕ) (levels : List ℕ) : Type 0 where
  pub each : (test : Cell → Bool) → made ≡ flat_map (passing makes test) part.sheet.cells
      → (levels ≡ handed_on (take count part.levels)
      (counts (passing makes test) (take count part.sheet.cells)))
      × (drop at made ≡ flat_map (passing makes test) (drop count part.sheet.cells))

-- the cells of a sheet up to a level, with their levels
pub record IsNear (ghosts : ℕ) (s : SheetData) (levels : List ℕ)
    (part : PartSheetData) : Type 0 where
  pub sheet_is : IsSheet part.sheet
  pub cells : part.sheet.cells ≡ near_items ghosts levels s.cells
  pub points : KeepPoints part.sheet.names part.sheet.points s.names s.points
  pub levels_are : part.levels ≡ near_items ghosts levels levels

-- one sheet, all of whose cells are own
pub record IsWholePart (s : SheetData) (parts : List PartSheetData) : Type 0 where
  pub valid : IsSheet s
  pub parts_are : parts ≡ record { sheet = s; levels = replicate (length s.cells) 0 } ∷ []
