-- An extent, by its bounds along each axis (VTK User's Guide, the executive).
use Rattle.std.specs.Prelude.{ℕ, ◌+◌, ◌-◌, ◌*◌, ◌^◌, ◌<◌, ◌≤◌, List, [], ◌∷◌, slice_index}

-- the first and the last index along x, y and z
pub record Bounds : Type 0 where
  pub x0 : ℕ
  pub x1 : ℕ
  pub y0 : ℕ
  pub y1 : ℕ
  pub z0 : ℕ
  pub z1 : ℕ

-- the bounds that six numbers are: along x, then y, then z, the lower one first
abbrev pub bounds_of : List ℕ → Bounds
bounds_of numbers =
    record {
      x0 = slice_index numbers 0;
      x1 = slice_index numbers 1;
      y0 = slice_index numbers 2;
      y1 = slice_index numbers 3;
      z0 = slice_index numbers 4;
      z1 = slice_index numbers 5;
    }

-- the six bounds in that order
abbrev pub numbers_of : Bounds → List ℕ
numbers_of b = b.x0 ∷ b.x1 ∷ b.y0 ∷ b.y1 ∷ b.z0 ∷ b.z1 ∷ []

-- how many indices there are from a lower bound to its upper one
abbrev pub size_of : ℕ → ℕ → ℕ
size_of lower upper = upper - lower + 1

-- how many points lie in a row along x
abbrev pub size_x : Bounds → ℕ
size_x b = size_of b.x0 b.x1

-- how many points lie in a row along y
abbrev pub size_y : Bounds → ℕ
size_y b = size_of b.y0 b.y1

-- how many points lie in a row along z
abbrev pub size_z : Bounds → ℕ
size_z b = size_of b.z0 b.z1

-- how many points lie in a plane across z
abbrev pub plane_size : Bounds → ℕ
plane_size b = size_x b * size_y b

-- how many points there are
abbrev pub count_of : Bounds → ℕ
count_of b = plane_size b * size_z b

-- a lower bound is at most its upper one, and both are below 2^31
pub record IsAxis (lower upper : ℕ) : Type 0 where
  pub order : lower ≤ upper
  pub limit : upper < 2 ^ 31

-- the rule of an extent: three axes, at most 2^31 - 1 points (docs/FORMATS.md, "Extents")
pub record IsExtent (b : Bounds) : Type 0 where
  pub x : IsAxis b.x0 b.x1
  pub y : IsAxis b.y0 b.y1
  pub z : IsAxis b.z0 b.z1
  pub count : count_of b < 2 ^ 31

-- an index lies on the axis from a lower bound to an upper one
pub record IsOnAxis (lower upper index : ℕ) : Type 0 where
  pub at_least : lower ≤ index
  pub at_most : index ≤ upper

-- the extent has a point at i, j, k
pub record Has (b : Bounds) (i j k : ℕ) : Type 0 where
  pub x : IsOnAxis b.x0 b.x1 i
  pub y : IsOnAxis b.y0 b.y1 j
  pub z : IsOnAxis b.z0 b.z1 k
