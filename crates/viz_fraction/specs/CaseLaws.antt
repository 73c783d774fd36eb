-- What the cells of a section are: on the cut edges, whole, and joined (Doi and Koide 1991).
use Rattle.std.specs.Prelude.{◌≡◌, ◌≢◌, ◌⊎◌, ◌↔◌, ℕ, ◌-◌, ◌^◌, ◌<◌, ◌≤◌, Bool, List, [], ◌∷◌, ◌++◌}
use Rattle.std.specs.Prelude.{length, All, AllPairs, Contains}
use Rattle.viz_fraction.specs.CaseRows.{End}
use Rattle.viz_fraction.specs.Cases.{IsCase, is_inside, inside_of, cells_at, ends_of, numbers_of}

-- an edge of the simplex with exactly one corner inside
pub record IsCut (corners mask : ℕ) (e : End) : Type 0 where
  pub order : e.low < e.high
  pub within : e.high < corners
  pub apart : is_inside mask e.low ≢ is_inside mask e.high

-- an end occurs in a cell exactly where it stands for a cut edge
abbrev pub UsesCutEdges : Type 0
UsesCutEdges =
    (corners mask : ℕ) → IsCase corners mask
    → (e : End) → (Contains (ends_of (cells_at corners mask)) e) ↔ IsCut corners mask e

-- a cell has one end less than the simplex has corners, and no end twice
pub record IsWhole (corners : ℕ) (cell : List End) : Type 0 where
  pub size : length cell ≡ corners - 1
  pub different : AllPairs (λ e f. e ≢ f) cell

-- each cell is whole
abbrev pub HasWholeCells : Type 0
HasWholeCells =
    (corners mask : ℕ) → IsCase corners mask → All (IsWhole corners) (cells_at corners mask)

-- the ends of the cells fit into the six places of a `Case`
abbrev pub FitsPlaces : Type 0
FitsPlaces =
    (corners mask : ℕ) → IsCase corners mask → length (ends_of (cells_at corners mask)) ≤ 6

-- where all corners are inside, or none is, there is no cell
abbrev pub HasNoCellOfOneSide : Type 0
HasNoCellOfOneSide =
    (corners mask : ℕ) → IsCase corners mask
    → (side : Bool) → ((corner : ℕ) → corner < corners → is_inside mask corner ≡ side)
    → cells_at corners mask ≡ []

-- the mask with the other corners inside
abbrev pub complement : ℕ → ℕ → ℕ
complement corners mask = 2 ^ corners - 1 - mask

-- a mask and its complement have the same ends
abbrev pub ComplementHasSameEnds : Type 0
ComplementHasSameEnds =
    (corners mask : ℕ) → IsCase corners mask
    → (e : End) → (Contains (ends_of (cells_at corners mask)) e)
    ↔ (Contains (ends_of (cells_at corners (complement corners mask))) e)

-- a side of a triangle, run through from one end to the other
pub record Side : Type 0 where
  pub tail : End
  pub head : End

-- the side from one end to another
abbrev pub side : End → End → Side
side p q = record { tail = p; head = q }

-- the side run through the other way
abbrev pub turned : Side → Side
turned s = side s.head s.tail

-- the sides of a triangle, in the direction of its ends
abbrev pub sides_of : List End → List Side
sides_of (p ∷ q ∷ r ∷ []) = side p q ∷ side q r ∷ side r p ∷ []
sides_of cell = []

-- the only side that two triangles share, run through in opposite directions, and on no facet
pub record IsDiagonal (first second : List End) (d : Side) : Type 0 where
  pub forth : Contains (sides_of first) d
  pub back : Contains (sides_of second) (turned d)
  pub only : (s : Side) → Contains (sides_of first) s
      → Contains (sides_of second) s ⊎ Contains (sides_of second) (turned s) → s ≡ d
  pub apart : AllPairs (λ a b. a ≢ b) (numbers_of d.tail ++ numbers_of d.head)

-- a tetrahedron is cut in two triangles exactly where two of its corners are inside
abbrev pub HasTwoWhereTwoInside : Type 0
HasTwoWhereTwoInside =
    (mask : ℕ) → IsCase 4 mask
    → (length (cells_at 4 mask) ≡ 2) ↔ (length (inside_of 4 mask) ≡ 2)

-- where a mask has two triangles, they share a diagonal
abbrev pub SharesDiagonals : Type 0
SharesDiagonals =
    (mask : ℕ) → IsCase 4 mask
    → (first second : List End) → cells_at 4 mask ≡ first ∷ second ∷ []
    → (d : Side) × IsDiagonal first second d
