-- Exact points with a scalar, as whole numbers over one weight (homogeneous coordinates, Moebius
-- 1827).
use Rattle.std.specs.Prelude.{◌≡◌, ℕ, ◌^◌, ◌≤◌, ℤ, pos, ◌+ℤ◌, ◌*ℤ◌, ◌<ℤ◌, unsigned_abs, int_div}
use Prim.Native.Nat.{◌∣◌}
use Rattle.viz_fraction.specs.Divisors.{gcd}

-- five whole numbers: the place is (x / w, y / w, z / w), and the scalar there is s / w
pub record Point : Type 0 where
  pub x : ℤ
  pub y : ℤ
  pub z : ℤ
  pub s : ℤ
  pub w : ℤ

-- five numbers in their order
abbrev pub numbers : ℤ → ℤ → ℤ → ℤ → ℤ → Point
numbers x y z s w =
    record {
      x = x;
      y = y;
      z = z;
      s = s;
      w = w;
    }

-- the number isn't wide: its magnitude is at most 2^120
abbrev pub IsNarrow : ℤ → Type 0
IsNarrow n = unsigned_abs n ≤ 2 ^ 120

-- none of the five numbers is wide
pub record IsNarrowPoint (p : Point) : Type 0 where
  pub x : IsNarrow p.x
  pub y : IsNarrow p.y
  pub z : IsNarrow p.z
  pub s : IsNarrow p.s
  pub w : IsNarrow p.w

-- the greatest common divisor of the five numbers
unfoldable pub divisor_of : Point → ℕ
divisor_of p =
    gcd (gcd (gcd (gcd (unsigned_abs p.w) (unsigned_abs p.x)) (unsigned_abs p.y))
    (unsigned_abs p.z)) (unsigned_abs p.s)

-- each of the five numbers k times
abbrev pub scaled : ℕ → Point → Point
scaled k p =
    record {
      x = pos k *ℤ p.x;
      y = pos k *ℤ p.y;
      z = pos k *ℤ p.z;
      s = pos k *ℤ p.s;
      w = pos k *ℤ p.w;
    }

-- the sums of the five numbers
abbrev pub added : Point → Point → Point
added p q =
    record {
      x = p.x +ℤ q.x;
      y = p.y +ℤ q.y;
      z = p.z +ℤ q.z;
      s = p.s +ℤ q.s;
      w = p.w +ℤ q.w;
    }

-- each of the five numbers divided by d
abbrev pub divided : ℕ → Point → Point
divided d p =
    record {
      x = int_div p.x (pos d);
      y = int_div p.y (pos d);
      z = int_div p.z (pos d);
      s = int_div p.s (pos d);
      w = int_div p.w (pos d);
    }

-- the five numbers in lowest terms
abbrev pub reduced : Point → Point
reduced p = divided (divisor_of p) p

-- the rule of a point: a positive weight, lowest terms, and no wide number
pub record IsPoint (p : Point) : Type 0 where
  pub positive : pos 0 <ℤ p.w
  pub lowest : divisor_of p ≡ 1
  pub narrow : IsNarrowPoint p

-- both have the same place and the same scalar, by cross products
pub record IsSamePlace (p q : Point) : Type 0 where
  pub x : p.x *ℤ q.w ≡ q.x *ℤ p.w
  pub y : p.y *ℤ q.w ≡ q.y *ℤ p.w
  pub z : p.z *ℤ q.w ≡ q.z *ℤ p.w
  pub s : p.s *ℤ q.w ≡ q.s *ℤ p.w

-- d divides each of the five numbers
pub record DividesEach (d : ℕ) (p : Point) : Type 0 where
  pub x : d ∣ unsigned_abs p.x
  pub y : d ∣ unsigned_abs p.y
  pub z : d ∣ unsigned_abs p.z
  pub s : d ∣ unsigned_abs p.s
  pub w : d ∣ unsigned_abs p.w

-- the divisor divides each of the five, and what divides each of them divides it
pub record IsDivisorOf (p : Point) (d : ℕ) : Type 0 where
  pub common : DividesEach d p
  pub greatest : (e : ℕ) → DividesEach e p → e ∣ d

-- the greatest common divisor of five numbers is what its name says
abbrev pub DivisorIsGreatest : Type 0
DivisorIsGreatest = (p : Point) → IsDivisorOf p (divisor_of p)

-- five numbers in lowest terms have the place and the scalar that they had
abbrev pub ReducedIsSamePlace : Type 0
ReducedIsSamePlace = (p : Point) → IsSamePlace (reduced p) p

-- in lowest terms the greatest common divisor is 1, and the weight stays positive
abbrev pub ReducedIsLowest : Type 0
ReducedIsLowest = (p : Point) → pos 0 <ℤ p.w → (divisor_of (reduced p) ≡ 1)
    × (pos 0 <ℤ (reduced p).w)

-- equal places with equal scalars have equal points
abbrev pub SamePlaceIsSamePoint : Type 0
SamePlaceIsSamePoint =
    (p q : Point) → pos 0 <ℤ p.w → pos 0 <ℤ q.w → IsSamePlace p q → reduced p ≡ reduced q

-- a point is its own lowest terms
abbrev pub PointIsReduced : Type 0
PointIsReduced = (p : Point) → IsPoint p → reduced p ≡ p
