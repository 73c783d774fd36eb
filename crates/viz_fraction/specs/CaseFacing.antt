-- Which corners a triangle of a section faces, by determinants of weights (Doi and Koide 1991).
use Rattle.std.specs.Prelude.{◌≡◌, ℕ, ◌*◌, ◌<◌, true, false, ◌==◌, if◌then◌else◌, List, [], ◌∷◌}
use Rattle.std.specs.Prelude.{◌++◌, map, sum_by, All}
use Rattle.viz_fraction.specs.CaseRows.{End}
use Rattle.viz_fraction.specs.Cases.{IsCase, is_inside, cells_at}

-- where an end lies on its edge: its weights at the two corners
pub record Weights : Type 0 where
  pub at_low : ℕ
  pub at_high : ℕ

-- each end lies between the corners of its edge
pub record ArePositive (w : End → Weights) : Type 0 where
  pub low : (e : End) → 0 < (w e).at_low
  pub high : (e : End) → 0 < (w e).at_high

-- the weight of an end at a corner of the tetrahedron
abbrev pub weight_at : (End → Weights) → End → ℕ → ℕ
weight_at w e corner =
    if corner == e.low then (w e).at_low else (if corner == e.high then (w e).at_high else 0)

-- the weight of a corner of the tetrahedron at a corner
abbrev pub unit_at : ℕ → ℕ → ℕ
unit_at own corner = if corner == own then 1 else 0

-- four columns in an order
abbrev pub order : ℕ → ℕ → ℕ → ℕ → List ℕ
order a b c d = a ∷ b ∷ c ∷ d ∷ []

-- the even orders of four columns
abbrev pub even_orders : List (List ℕ)
even_orders =
    order 0 1 2 3
    ∷ order 0 2 3 1
    ∷ order 0 3 1 2
    ∷ order 1 0 3 2
    ∷ order 1 2 0 3
    ∷ order 1 3 2 0
    ∷ order 2 0 1 3
    ∷ order 2 1 3 0
    ∷ order 2 3 0 1
    ∷ order 3 0 2 1
    ∷ order 3 1 0 2
    ∷ order 3 2 1 0
    ∷ []

-- the odd orders of four columns
abbrev pub odd_orders : List (List ℕ)
odd_orders =
    order 0 1 3 2
    ∷ order 0 2 1 3
    ∷ order 0 3 2 1
    ∷ order 1 0 2 3
    ∷ order 1 2 3 0
    ∷ order 1 3 0 2
    ∷ order 2 0 3 1
    ∷ order 2 1 0 3
    ∷ order 2 3 1 0
    ∷ order 3 0 1 2
    ∷ order 3 1 2 0
    ∷ order 3 2 0 1
    ∷ []

-- the product of one entry of each row, the columns in this order
abbrev pub product_along : List (ℕ → ℕ) → List ℕ → ℕ
product_along [] columns = 1
product_along (entry ∷ matrix) [] = 1
product_along (entry ∷ matrix) (column ∷ columns) = entry column * product_along matrix columns

-- the sum of the products along some orders
abbrev pub sum_along : List (ℕ → ℕ) → List (List ℕ) → ℕ
sum_along matrix orders = sum_by (product_along matrix) orders

-- the determinant of four rows is above 0
abbrev pub HasPositiveDeterminant : List (ℕ → ℕ) → Type 0
HasPositiveDeterminant matrix = sum_along matrix odd_orders < sum_along matrix even_orders

-- the determinant of four rows is below 0
abbrev pub HasNegativeDeterminant : List (ℕ → ℕ) → Type 0
HasNegativeDeterminant matrix = sum_along matrix even_orders < sum_along matrix odd_orders

-- the weights of a triangle's ends, and then those of a corner
abbrev pub weights_with : (End → Weights) → List End → ℕ → List (ℕ → ℕ)
weights_with w cell corner = map (weight_at w) cell ++ unit_at corner ∷ []

-- wherever the ends lie on their edges, a triangle of a positive tetrahedron faces a corner
abbrev pub Faces : List End → ℕ → Type 0
Faces cell corner =
    (w : End → Weights) → ArePositive w → HasPositiveDeterminant (weights_with w cell corner)

-- wherever the ends lie on their edges, a triangle of a positive tetrahedron faces away from a
-- corner
abbrev pub FacesAway : List End → ℕ → Type 0
FacesAway cell corner =
    (w : End → Weights) → ArePositive w → HasNegativeDeterminant (weights_with w cell corner)

-- each triangle faces each outside corner
abbrev pub FacesOutside : Type 0
FacesOutside =
    (mask corner : ℕ) → IsCase 4 mask → corner < 4 → is_inside mask corner ≡ false
    → All (λ cell. Faces cell corner) (cells_at 4 mask)

-- each triangle faces away from each inside corner
abbrev pub FacesAwayFromInside : Type 0
FacesAwayFromInside =
    (mask corner : ℕ) → IsCase 4 mask → corner < 4 → is_inside mask corner ≡ true
    → All (λ cell. FacesAway cell corner) (cells_at 4 mask)
