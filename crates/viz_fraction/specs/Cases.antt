-- From a mask to its row in the table of cells (Doi and Koide 1991), and how a `Case` holds it.
use Rattle.std.specs.Prelude.{ℕ, ◌-◌, ◌/◌, ◌%◌, ◌^◌, ◌<◌, ◌≤◌, Bool, ◌&&◌, ◌==◌, nat_eq, List, []}
use Rattle.std.specs.Prelude.{◌∷◌, ◌++◌, length, take, map, filter, replicate}
use Rattle.std.specs.List.{flat_map, starts_with}
use Rattle.viz_fraction.specs.declared.case_table.Case.{Case}
use Rattle.viz_fraction.specs.CaseRows.{End, Row, rows}

-- a simplex has 1 to 4 corners, and its mask a bit for each
pub record IsCase (corners mask : ℕ) : Type 0 where
  pub least : 1 ≤ corners
  pub most : corners ≤ 4
  pub below : mask < 2 ^ corners

-- whether a mask says that a corner is inside
abbrev pub is_inside : ℕ → ℕ → Bool
is_inside mask corner = mask / 2 ^ corner % 2 == 1

-- the corners of a simplex of up to four, ascending
abbrev pub corners_of : ℕ → List ℕ
corners_of corners = take corners (0 ∷ 1 ∷ 2 ∷ 3 ∷ [])

-- the inside corners of a mask, ascending
abbrev pub inside_of : ℕ → ℕ → List ℕ
inside_of corners mask = filter (is_inside mask) (corners_of corners)

-- whether two lists of numbers are the same
abbrev pub same_numbers : List ℕ → List ℕ → Bool
same_numbers xs ys = (length xs == length ys) && starts_with nat_eq xs ys

-- whether a row is that of so many corners with these inside
abbrev pub is_row_of : ℕ → List ℕ → Row → Bool
is_row_of corners inside r = (r.corners == corners) && same_numbers r.inside inside

-- the cells of a mask: none where no row is its own
unfoldable pub cells_at : ℕ → ℕ → List (List End)
cells_at corners mask =
    flat_map (λ r. r.cells) (filter (is_row_of corners (inside_of corners mask)) rows)

-- the ends of cells, one after the other
abbrev pub ends_of : List (List End) → List End
ends_of cells = flat_map (λ cell. cell) cells

-- an end as two numbers
abbrev pub numbers_of : End → List ℕ
numbers_of e = e.low ∷ e.high ∷ []

-- how a `Case` holds the cells of a simplex: six ends, filled up with zeros
abbrev pub case_of : ℕ → List (List End) → Case
case_of corners cells =
    record {
      count = length cells;
      size = corners - 1;
      ends = take 6 (map numbers_of (ends_of cells) ++ replicate 6 (0 ∷ 0 ∷ []));
    }

-- the cells of a mask as a `Case`
unfoldable pub case_at : ℕ → ℕ → Case
case_at corners mask = case_of corners (cells_at corners mask)
