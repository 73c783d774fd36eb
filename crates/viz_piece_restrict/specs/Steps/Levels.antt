-- Ghost levels by growth, a level at a time, over marks of the ranks of cells that are there.
use Rattle.std.specs.Prelude.{◌≡◌, ℕ, ◌<◌, ◌≤◌, Bool, true, false, Option, Some, None, List, []}
use Rattle.std.specs.Prelude.{All, Contains, ◌⊎◌, length, map, cond, slice_index_or}
use Rattle.std.specs.List.{list_any, range_with_len}
use Rattle.viz_parts.specs.Seen.{Seen, AreSeen, AreSteps}
use Rattle.viz_piece_filters.specs.Growth.{grown_level}
use Rattle.viz_sheet.specs.Ranked.{rank_of}
use Rattle.viz_sheet.specs.Sheet.{SheetData}

-- the level of a cell, if it is there
abbrev pub level_at : List Bool → List ℕ → ℕ → Option ℕ
level_at there levels k = cond (slice_index_or there k false)
    (Some (slice_index_or levels k 0)) None

-- what is seen of a cell: whether it is own, and its level
abbrev pub seen_at : List (List (List ℕ)) → List Bool → List Bool → List ℕ → ℕ → Seen
seen_at cells own there levels k =
    record {
      cell = slice_index_or cells k [];
      own = slice_index_or own k false;
      level = level_at there levels k;
    }

-- of all cells
abbrev pub seen_in : List (List (List ℕ)) → List Bool → List Bool → List ℕ → List Seen
seen_in cells own there levels = map (seen_at cells own there levels)
    (range_with_len 0 (length cells))

-- whether some rank is marked
abbrev pub is_any_marked : List Bool → List ℕ → Bool
is_any_marked marks cell = list_any (λ r. slice_index_or marks r false) cell

-- all ranks are
abbrev pub AreMarked : List Bool → List ℕ → Type 0
AreMarked marks cell = All (λ r. slice_index_or marks r false ≡ true) cell

-- whether some name of a cell has a marked rank
abbrev pub is_touched : List (List ℕ) → List Bool → List (List ℕ) → Bool
is_touched names marks cell = list_any (λ n. slice_index_or marks (rank_of names n) false) cell

-- one of the first cells, so many, is there with one level and has a rank
pub record HasRankAt {X : Type 0} (ranks : X → List ℕ) (count : ℕ) (cells : List X)
    (there : List Bool)
    (levels : List ℕ) (level : ℕ) (d : X) (r : ℕ) : Type 0 where
  pub cell : ℕ
  pub below : cell < count
  pub level_is : level_at there levels cell ≡ Some level
  pub has : Contains (ranks (slice_index_or cells cell d)) r

-- of the first cells, so many, those that are there with one level have marked ranks; what was
-- marked is, and nothing else
pub record AreMarkedTo {X : Type 0} (ranks : X → List ℕ) (count : ℕ) (cells : List X)
    (there : List Bool)
    (levels : List ℕ) (level : ℕ) (old new : List Bool) : Type 0 where
  pub size : length new ≡ length old
  pub kept : (r : ℕ) → slice_index_or old r false ≡ true → slice_index_or new r false ≡ true
  pub added : (k : ℕ) (d : X) → k < count → level_at there levels k ≡ Some level
      → AreMarked new (ranks (slice_index_or cells k d))
  pub only : (d : X) (r : ℕ) → slice_index_or new r false ≡ true
      → (slice_index_or old r false ≡ true) ⊎ HasRankAt ranks count cells there levels level d r

-- the first cells, so many, come in where they have a marked rank; the others are as before
pub record AreGrownTo {X : Type 0} (ranks : X → List ℕ) (count : ℕ) (cells : List X)
    (marks : List Bool)
    (next : ℕ) (there : List Bool) (levels : List ℕ) (now_there : List Bool) (now_levels : List ℕ)
    : Type 0 where
  pub there_size : length now_there ≡ length there
  pub levels_size : length now_levels ≡ length levels
  pub each : (k : ℕ) (d : X) → k < count
      → level_at now_there now_levels k
      ≡ grown_level (is_any_marked marks (ranks (slice_index_or cells k d))) next
      (level_at there levels k)
  pub others : (k : ℕ) → count ≤ k → level_at now_there now_levels k ≡ level_at there levels k

-- each cell has the level that it had
abbrev pub AreSameLevels : List Bool → List ℕ → List Bool → List ℕ → Type 0
AreSameLevels there levels now_there now_levels = (k : ℕ)
    → level_at now_there now_levels k ≡ level_at there levels k

-- a cell of a level before is there and has a rank
pub record HasRankBefore (count : ℕ) (ranks : List (List ℕ)) (there : List Bool) (levels : List ℕ)
    (level r : ℕ) : Type 0 where
  pub cell : ℕ
  pub below : cell < count
  pub own_level : ℕ
  pub level_is : level_at there levels cell ≡ Some own_level
  pub before : own_level < level
  pub has : Contains (slice_index_or ranks cell []) r

-- where growth stands after a level: a piece with so many levels, least numbers of steps, and
-- marks of its cells of the levels before
pub record AreLevels (s : SheetData) (ranks : List (List ℕ)) (own : List Bool)
    (level : ℕ) (marks there : List Bool) (levels : List ℕ) : Type 0 where
  pub marks_size : length marks ≡ length s.names
  pub there_size : length there ≡ length s.cells
  pub levels_size : length levels ≡ length s.cells
  pub seen : AreSeen level (seen_in s.cells own there levels)
  pub steps : AreSteps (seen_in s.cells own there levels)
  pub marked : (k l : ℕ) → k < length s.cells → level_at there levels k ≡ Some l
      → l < level → AreMarked marks (slice_index_or ranks k [])
  pub only : (r : ℕ) → slice_index_or marks r false ≡ true
      → HasRankBefore (length s.cells) ranks there levels level r

-- a piece with so many ghost levels, the least numbers of steps, by which cells are there and
-- their levels
pub record IsGrown (s : SheetData) (own : List Bool) (ghosts : ℕ) (there : List Bool)
    (levels : List ℕ) : Type 0 where
  pub there_size : length there ≡ length s.cells
  pub levels_size : length levels ≡ length s.cells
  pub seen : AreSeen ghosts (seen_in s.cells own there levels)
  pub steps : AreSteps (seen_in s.cells own there levels)
