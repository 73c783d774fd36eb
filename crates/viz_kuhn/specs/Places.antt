-- Places in the grid, and the signed volume of four of them (VTK User's Guide, linear cells).
use Rattle.std.specs.Prelude.{◌≡◌, ℕ, ◌+◌, ◌<◌, ℤ, pos, ◌+ℤ◌, ◌-ℤ◌, ◌*ℤ◌, List, [], ◌∷◌, map}
use Rattle.viz_kuhn.specs.Corners.{Corner}
use Rattle.viz_kuhn.specs.Kuhn.{corners_of}

-- a place in the grid, by its indices along x, y and z
pub record Place : Type 0 where
  pub i : ℕ
  pub j : ℕ
  pub k : ℕ

-- the place with these indices
abbrev pub place : ℕ → ℕ → ℕ → Place
place i j k = record { i = i; j = j; k = k }

-- where a corner lies, of the cube whose lowest corner lies at a place
abbrev pub place_of : Place → Corner → Place
place_of lowest c = place (lowest.i + c.x) (lowest.j + c.y) (lowest.k + c.z)

-- a vector of the grid
pub record Vector : Type 0 where
  pub x : ℤ
  pub y : ℤ
  pub z : ℤ

-- the vector from one place to another
abbrev pub vector : Place → Place → Vector
vector from to =
    record {
      x = pos to.i -ℤ pos from.i;
      y = pos to.j -ℤ pos from.j;
      z = pos to.k -ℤ pos from.k;
    }

-- the determinant of three vectors
abbrev pub determinant : Vector → Vector → Vector → ℤ
determinant u v w =
    (u.x *ℤ ((v.y *ℤ w.z) -ℤ (v.z *ℤ w.y)))
    +ℤ (u.y *ℤ ((v.z *ℤ w.x) -ℤ (v.x *ℤ w.z)))
    +ℤ (u.z *ℤ ((v.x *ℤ w.y) -ℤ (v.y *ℤ w.x)))

-- the signed volume of four places in sixths of a cube: that of the edges from the first
abbrev pub sixths : List Place → ℤ
sixths (a ∷ b ∷ c ∷ d ∷ []) = determinant (vector a b) (vector a c) (vector a d)
sixths _ = pos 0

-- each tetrahedron is positively oriented, and a sixth of its cube, wherever the cube lies
abbrev pub IsPositiveSixth : Type 0
IsPositiveSixth =
    (p : ℕ) (lowest : Place) → p < 6
    → sixths (map (place_of lowest) (corners_of p)) ≡ pos 1
