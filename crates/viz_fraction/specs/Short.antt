-- Crossings whose weighted sums fit a machine word of 64 bits (docs/FORMATS-OF-FILTERS.md, "Exact
-- points").
use Rattle.std.specs.Prelude.{◌+◌, ◌^◌, ◌<◌, ℤ, FitsSigned}
use Rattle.std.specs.Int.{w32}
use Rattle.viz_fraction.specs.Points.{Point}
use Rattle.viz_fraction.specs.Crossings.{outside_weight, inside_weight}

-- all five numbers fit signed 32 bits
pub record IsShort (p : Point) : Type 0 where
  pub x : FitsSigned w32 p.x
  pub y : FitsSigned w32 p.y
  pub z : FitsSigned w32 p.z
  pub s : FitsSigned w32 p.s
  pub w : FitsSigned w32 p.w

-- both ends are short, and their weights together fit 32 bits
pub record IsShortCrossing (la : ℤ) (a : Point) (lb : ℤ) (b : Point) : Type 0 where
  pub weights : outside_weight la lb + inside_weight la lb < 2 ^ 32
  pub inside : IsShort a
  pub outside : IsShort b
