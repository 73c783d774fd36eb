-- Points whose numbers fit a machine word of 64 bits (docs/FORMATS-OF-FILTERS.md, "Exact points").
use Rattle.std.specs.Prelude.{FitsSigned}
use Rattle.std.specs.Int.{w64}
use Rattle.viz_fraction.specs.Points.{Point}

-- all five numbers fit signed 64 bits
pub record IsSmall (p : Point) : Type 0 where
  pub x : FitsSigned w64 p.x
  pub y : FitsSigned w64 p.y
  pub z : FitsSigned w64 p.z
  pub s : FitsSigned w64 p.s
  pub w : FitsSigned w64 p.w
