-- The axes of the grid, and the eight corners of a cube (Kuhn 1960).
use Rattle.std.specs.Prelude.{◌≡◌, ℕ, ◌+◌, ◌/◌, ◌%◌, ◌<◌, ◌⊎◌, List, [], ◌∷◌, nat_lt, count_by}
use Rattle.std.specs.Prelude.{swap}

-- an axis of the grid
pub data Axis : Type 0 where
  along_x : Axis
  along_y : Axis
  along_z : Axis

-- a corner of a cube, by its steps from the lowest corner along x, y and z
pub record Corner : Type 0 where
  pub x : ℕ
  pub y : ℕ
  pub z : ℕ

-- the corner at these steps
abbrev pub corner : ℕ → ℕ → ℕ → Corner
corner x y z = record { x = x; y = y; z = z }

-- the corner whose steps are the bits of a number, x first
abbrev pub corner_of : ℕ → Corner
corner_of bits = corner (bits / 4) (bits / 2 % 2) (bits % 2)

-- the sum of two corners' steps
abbrev pub plus : Corner → Corner → Corner
plus a b = corner (a.x + b.x) (a.y + b.y) (a.z + b.z)

-- the steps of an axis
abbrev pub along : Axis → Corner
along along_x = corner 1 0 0
along along_y = corner 0 1 0
along along_z = corner 0 0 1

-- the corners from one on, along the axes in order
abbrev pub path_from : Corner → List Axis → List Corner
path_from from [] = from ∷ []
path_from from (axis ∷ axes) = from ∷ path_from (plus from (along axis)) axes

-- the corners from the lowest one on, along the axes in order
abbrev pub path_of : List Axis → List Corner
path_of axes = path_from (corner 0 0 0) axes

-- the corners with the second and the third in each other's place
abbrev pub exchanged : List Corner → List Corner
exchanged corners = swap corners 1 2

-- an axis's place in the order x, y, z
abbrev pub rank : Axis → ℕ
rank along_x = 0
rank along_y = 1
rank along_z = 2

-- how many pairs of the axes stand in the other order than x, y, z
abbrev pub inversions : List Axis → ℕ
inversions [] = 0
inversions (axis ∷ axes) = count_by (λ later. nat_lt (rank later)
    (rank axis)) axes + inversions axes

-- each step is 0 or 1
pub record IsCorner (c : Corner) : Type 0 where
  pub x : c.x < 2
  pub y : c.y < 2
  pub z : c.z < 2

-- a vector of zeros and ones that isn't all zeros
pub record IsStep (v : Corner) : Type 0 where
  pub bits : IsCorner v
  pub moves : 0 < v.x + v.y + v.z

-- the second corner is the first plus such a vector
abbrev pub IsStepUp : Corner → Corner → Type 0
IsStepUp from to = (v : Corner) × IsStep v × (to ≡ plus from v)

-- one of two corners is the other plus such a vector
abbrev pub IsEdge : Corner → Corner → Type 0
IsEdge a b = IsStepUp a b ⊎ IsStepUp b a
