-- Points whose positions are whole numbers of units.
use Rattle.std.proofs.Common.{◌≡◌, ℤ, pos, arith}
use Rattle.std.specs.Prelude.{◌*ℤ◌}
use Rattle.std.proofs.lemmas.Int.{ints}
use Rattle.viz_fraction.specs.Points.{numbers, reduced}
use Rattle.viz_fraction.proofs.PointsLemmas.{reduced-same_place}
use Rattle.viz_dataset.specs.Images.{billion}

-- in units the point is the same as in billionths
pub reduced-units : (x y z s : ℤ) → reduced (numbers x y z s (pos 1)) ≡ reduced (numbers (x *ℤ billion) (y *ℤ billion) (z *ℤ billion) (s *ℤ billion) billion)
reduced-units x y z s =
    reduced-same_place
    (numbers x y z s (pos 1))
    (numbers (x *ℤ billion) (y *ℤ billion) (z *ℤ billion) (s *ℤ billion) billion)
    (omega (arith, ints))
    (omega (arith, ints))
    (record {
      x = omega (arith, ints);
      y = omega (arith, ints);
      z = omega (arith, ints);
      s = omega (arith, ints);
    })
