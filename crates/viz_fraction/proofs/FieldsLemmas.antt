-- Five numbers that the code keeps are the numbers that they were.
use Rattle.std.proofs.Common.{◌≡◌, ℤ}
use Rattle.std.proofs.lemmas.Int.{to_z-of_z}
use Rattle.std.specs.Int.{w128}
use mir.Val.{SFits, to_z, of_z}
use Rattle.viz_fraction.specs.Points.{numbers}
use Rattle.viz_fraction.proofs.PointsLemmas.{same_point}

-- what is kept in 128 bits
abbrev pub kept : ℤ → ℤ
kept z = to_z w128 (of_z w128 z)

pub numbers-kept : (x y z s w : ℤ) → SFits w128 x → SFits w128 y → SFits w128 z → SFits w128 s → SFits w128 w
    → numbers (kept x) (kept y) (kept z) (kept s) (kept w) ≡ numbers x y z s w
numbers-kept x y z s w fits_x fits_y fits_z fits_s fits_w =
    same_point _ _ (to_z-of_z w128 x fits_x) (to_z-of_z w128 y fits_y) (to_z-of_z w128 z fits_z) (to_z-of_z w128 s fits_s) (to_z-of_z w128 w fits_w)
