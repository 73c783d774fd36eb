-- A weighted sum of two points, number by number.
use Rattle.std.specs.Prelude.{◌≡◌, ◌+◌, ◌^◌, ◌<◌, ℤ, pos, ◌+ℤ◌, ◌*ℤ◌, ◌≤ℤ◌, ◌<ℤ◌, unsigned_abs}
use Rattle.viz_fraction.specs.declared.crossings.Weights.{Weights}
use Rattle.viz_fraction.specs.declared.numbers.Numbers.{Numbers}
use Rattle.viz_fraction.specs.Divisors.{gcd}
use Rattle.viz_fraction.specs.Points.{IsNarrow}
use Rattle.viz_fraction.specs.Numbers.{point_of}
use Rattle.viz_fraction.specs.Short.{IsShort}

-- weights without a common divisor but 1, of which the inside one isn't 0
pub record IsLowestWeights (k : Weights) : Type 0 where
  pub outside : pos 0 ≤ℤ k.outside
  pub inside : pos 0 <ℤ k.inside
  pub lowest : gcd (unsigned_abs k.outside) (unsigned_abs k.inside) ≡ 1

-- neither of two terms is wide, nor their sum
pub record IsNarrowSum (m n : ℤ) : Type 0 where
  pub first : IsNarrow m
  pub second : IsNarrow n
  pub sum : IsNarrow (m +ℤ n)

-- the weighted sum of one of the five numbers
abbrev pub mix_of : Weights → ℤ → ℤ → ℤ
mix_of k a b = k.outside *ℤ b +ℤ k.inside *ℤ a

-- the weighted sums of all five
abbrev pub mixed_of : Weights → Numbers → Numbers → Numbers
mixed_of k a b =
    record {
      x = mix_of k a.x b.x;
      y = mix_of k a.y b.y;
      z = mix_of k a.z b.z;
      s = mix_of k a.s b.s;
      w = mix_of k a.w b.w;
    }

-- no term and no sum of the five is wide
pub record IsNarrowMix (k : Weights) (a b : Numbers) : Type 0 where
  pub x : IsNarrowSum (k.outside *ℤ b.x) (k.inside *ℤ a.x)
  pub y : IsNarrowSum (k.outside *ℤ b.y) (k.inside *ℤ a.y)
  pub z : IsNarrowSum (k.outside *ℤ b.z) (k.inside *ℤ a.z)
  pub s : IsNarrowSum (k.outside *ℤ b.s) (k.inside *ℤ a.s)
  pub w : IsNarrowSum (k.outside *ℤ b.w) (k.inside *ℤ a.w)

-- both ends are short, and their weights together fit 32 bits
pub record IsShortMix (k : Weights) (a b : Numbers) : Type 0 where
  pub weights : unsigned_abs k.outside + unsigned_abs k.inside < 2 ^ 32
  pub inside : IsShort (point_of a)
  pub outside : IsShort (point_of b)
