-- The cells of a section of a simplex by a linear form (Doi and Koide 1991), row by row.
use Rattle.std.specs.Prelude.{ℕ, List, [], ◌∷◌, ◌++◌}

-- the point of the edge between two corners, the lower corner first
pub record End : Type 0 where
  pub low : ℕ
  pub high : ℕ

-- a row of the table: the corners of the simplex, those that are inside, and the cells
pub record Row : Type 0 where
  pub corners : ℕ
  pub inside : List ℕ
  pub cells : List (List End)

-- the end between the corners 0 and 1
abbrev pub e01 : End
e01 = record { low = 0; high = 1 }

-- the end between the corners 0 and 2
abbrev pub e02 : End
e02 = record { low = 0; high = 2 }

-- the end between the corners 0 and 3
abbrev pub e03 : End
e03 = record { low = 0; high = 3 }

-- the end between the corners 1 and 2
abbrev pub e12 : End
e12 = record { low = 1; high = 2 }

-- the end between the corners 1 and 3
abbrev pub e13 : End
e13 = record { low = 1; high = 3 }

-- the end between the corners 2 and 3
abbrev pub e23 : End
e23 = record { low = 2; high = 3 }

-- a cell of one end
abbrev pub point : End → List End
point p = p ∷ []

-- a cell of two ends
abbrev pub segment : End → End → List End
segment p q = p ∷ q ∷ []

-- a cell of three ends
abbrev pub triangle : End → End → End → List End
triangle p q r = p ∷ q ∷ r ∷ []

-- the row of so many corners with these inside and these cells
abbrev pub case_row : ℕ → List ℕ → List (List End) → Row
case_row corners inside cells = record { corners = corners; inside = inside; cells = cells }

-- the rows of two corners
abbrev pub rows_of_two : List Row
rows_of_two =
    -- inside 0
    case_row 2 (0 ∷ []) (point e01 ∷ [])
    -- inside 1
    ∷ case_row 2 (1 ∷ []) (point e01 ∷ [])
    ∷ []

-- the rows of three corners
abbrev pub rows_of_three : List Row
rows_of_three =
    -- inside 0
    case_row 3 (0 ∷ []) (segment e01 e02 ∷ [])
    -- inside 1
    ∷ case_row 3 (1 ∷ []) (segment e12 e01 ∷ [])
    -- inside 2
    ∷ case_row 3 (2 ∷ []) (segment e02 e12 ∷ [])
    -- inside 1 2
    ∷ case_row 3 (1 ∷ 2 ∷ []) (segment e02 e01 ∷ [])
    -- inside 0 2
    ∷ case_row 3 (0 ∷ 2 ∷ []) (segment e01 e12 ∷ [])
    -- inside 0 1
    ∷ case_row 3 (0 ∷ 1 ∷ []) (segment e12 e02 ∷ [])
    ∷ []

-- the rows of four corners
abbrev pub rows_of_four : List Row
rows_of_four =
    -- inside 0
    case_row 4 (0 ∷ []) (triangle e01 e02 e03 ∷ [])
    -- inside 1
    ∷ case_row 4 (1 ∷ []) (triangle e12 e01 e13 ∷ [])
    -- inside 2
    ∷ case_row 4 (2 ∷ []) (triangle e02 e12 e23 ∷ [])
    -- inside 3
    ∷ case_row 4 (3 ∷ []) (triangle e13 e03 e23 ∷ [])
    -- inside 1 2 3
    ∷ case_row 4 (1 ∷ 2 ∷ 3 ∷ []) (triangle e02 e01 e03 ∷ [])
    -- inside 0 2 3
    ∷ case_row 4 (0 ∷ 2 ∷ 3 ∷ []) (triangle e01 e12 e13 ∷ [])
    -- inside 0 1 3
    ∷ case_row 4 (0 ∷ 1 ∷ 3 ∷ []) (triangle e12 e02 e23 ∷ [])
    -- inside 0 1 2
    ∷ case_row 4 (0 ∷ 1 ∷ 2 ∷ []) (triangle e03 e13 e23 ∷ [])
    -- inside 0 1
    ∷ case_row 4 (0 ∷ 1 ∷ []) (triangle e02 e03 e13 ∷ triangle e02 e13 e12 ∷ [])
    -- inside 0 2
    ∷ case_row 4 (0 ∷ 2 ∷ []) (triangle e01 e12 e23 ∷ triangle e01 e23 e03 ∷ [])
    -- inside 0 3
    ∷ case_row 4 (0 ∷ 3 ∷ []) (triangle e01 e02 e23 ∷ triangle e01 e23 e13 ∷ [])
    -- inside 1 2
    ∷ case_row 4 (1 ∷ 2 ∷ []) (triangle e01 e13 e23 ∷ triangle e01 e23 e02 ∷ [])
    -- inside 1 3
    ∷ case_row 4 (1 ∷ 3 ∷ []) (triangle e01 e03 e23 ∷ triangle e01 e23 e12 ∷ [])
    -- inside 2 3
    ∷ case_row 4 (2 ∷ 3 ∷ []) (triangle e02 e12 e13 ∷ triangle e02 e13 e03 ∷ [])
    ∷ []

-- the table (docs/FORMATS-OF-FILTERS.md, "Cases of a section")
abbrev pub rows : List Row
rows = rows_of_two ++ rows_of_three ++ rows_of_four
