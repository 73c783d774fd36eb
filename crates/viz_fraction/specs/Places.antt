-- The position of a point, and the scalar there, each on its own (homogeneous coordinates, Moebius
-- 1827).
use Rattle.std.specs.Prelude.{◌≡◌, ℕ, ℤ, List, [], ◌∷◌, pos, ◌*ℤ◌, ◌<ℤ◌, ◌≤ℤ◌, ◌↔◌, unsigned_abs}
use Rattle.std.specs.Prelude.{int_div}
use Rattle.viz_fraction.specs.Divisors.{gcd}
use Rattle.viz_fraction.specs.Points.{Point}

-- the greatest common divisor of x, y, z and w
unfoldable pub place_divisor : Point → ℕ
place_divisor p = gcd (gcd (gcd (unsigned_abs p.w) (unsigned_abs p.x)) (unsigned_abs p.y))
    (unsigned_abs p.z)

-- x, y, z and w, each divided by d
abbrev pub four_divided : ℕ → Point → List ℤ
four_divided d p =
    int_div p.x (pos d) ∷ int_div p.y (pos d) ∷ int_div p.z (pos d) ∷ int_div p.w (pos d) ∷ []

-- the place of a point: x, y, z and w divided by their greatest common divisor
abbrev pub place_of : Point → List ℤ
place_of p = four_divided (place_divisor p) p

-- both are at the same position, by cross products
pub record IsSamePosition (p q : Point) : Type 0 where
  pub x : p.x *ℤ q.w ≡ q.x *ℤ p.w
  pub y : p.y *ℤ q.w ≡ q.y *ℤ p.w
  pub z : p.z *ℤ q.w ≡ q.z *ℤ p.w

-- points have one place exactly where they are at the same position, whatever their scalars
abbrev pub EqualPositionsHaveOnePlace : Type 0
EqualPositionsHaveOnePlace =
    (p q : Point) → pos 0 <ℤ p.w → pos 0 <ℤ q.w → IsSamePosition p q ↔ (place_of p ≡ place_of q)

-- the scalar s / w lies between lo and hi, or is one of both
pub record IsWithin (p : Point) (lo hi : ℤ) : Type 0 where
  pub above : (lo *ℤ p.w) ≤ℤ p.s
  pub below : p.s ≤ℤ (hi *ℤ p.w)
