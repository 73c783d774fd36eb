-- Cells by ranks: how many names come before each of a cell's names.
use Rattle.std.specs.Prelude.{◌≡◌, ℕ, ◌<◌, ◌≤◌, ◌^◌, List, [], ◌∷◌, length, map, All, Contains}
use Rattle.std.specs.Prelude.{slice_index_or, count_by}
use Rattle.std.specs.List.{flat_map, range_with_len}
use Rattle.std.specs.Cmp.Lexicographic.{slice_cmp}
use Rattle.std.specs.Ordering.{nat_cmp, is_lt}
use Rattle.viz_fraction.specs.Points.{Point}
use Rattle.viz_sheet.specs.Sheet.{AreApart, AreAscending}

-- how many of the names come before one: its rank
abbrev pub rank_of : List (List ℕ) → List ℕ → ℕ
rank_of names n = count_by (λ m. is_lt (slice_cmp nat_cmp m n)) names

-- the ranks of a cell's names
abbrev pub ranks_of : List (List ℕ) → List (List ℕ) → List ℕ
ranks_of names cell = map (rank_of names) cell

-- the names at ranks
abbrev pub names_at : List (List ℕ) → List ℕ → List (List ℕ)
names_at names ranks = map (λ r. slice_index_or names r []) ranks

-- cells by names, from cells by ranks
abbrev pub by_names : List (List ℕ) → List (List ℕ) → List (List (List ℕ))
by_names names cells = map (names_at names) cells

-- a cell by ranks: 1 to 4 different ones, below the number of names
pub record IsCell (count : ℕ) (cell : List ℕ) : Type 0 where
  pub some : 1 ≤ length cell
  pub most : length cell ≤ 4
  pub below : All (λ r. r < count) cell
  pub apart : AreApart cell

-- names that ascend, a point for each, and cells of them; a name may have no cell
pub record AreCells (names : List (List ℕ)) (points : List Point)
    (cells : List (List ℕ)) : Type 0 where
  pub ascending : AreAscending names
  pub matched : length points ≡ length names
  pub few : length names ≤ 2 ^ 32
  pub each : All (IsCell (length names)) cells

-- each name has a cell
abbrev pub AreUsed : ℕ → List (List ℕ) → Type 0
AreUsed count cells = (r : ℕ) → r < count → Contains (flat_map (λ cell. cell) cells) r

-- the rule of a sheet by ranks: cells of names, and no name without a cell
pub record AreRanks (names : List (List ℕ)) (points : List Point)
    (cells : List (List ℕ)) : Type 0 where
  pub rule : AreCells names points cells
  pub used : AreUsed (length names) cells

-- the names of so many points that aren't made of others: each is a leaf, its own number
abbrev pub leaf_names : ℕ → List (List ℕ)
leaf_names count = map (λ leaf. leaf ∷ []) (range_with_len 0 count)
