-- Each point of a moved image stands where it stood, with its number.
use Rattle.std.proofs.Common.{◌≡◌, ℕ, ℤ, pos, ◌+◌, ◌-◌, refl, sym, ap, ◌∙◌, arith}
use Rattle.std.specs.Prelude.{◌+ℤ◌, ◌*ℤ◌}
use Rattle.std.proofs.Math.IntN.{+ℤ_assoc}
use Rattle.viz_fraction.proofs.IntegersLemmas.{mul-+ℤ}
use Rattle.viz_extent.specs.Extent.{Bounds}
use Rattle.viz_extent.specs.Numbering.{index_at}
use Rattle.viz_dataset.specs.Images.{ImageData, position, point_at}
use Rattle.viz_round_trip.specs.RoundTrip.{from_zero, moved}
use Rattle.viz_round_trip.proofs.MovedLemmas.{size_again}

position_again : (origin spacing : ℤ) (lower a : ℕ) → position (position origin spacing lower) spacing a ≡ position origin spacing (lower + a)
position_again origin spacing lower a =
    +ℤ_assoc origin (spacing *ℤ pos lower) (spacing *ℤ pos a) ∙ ap (λ (n : ℤ). origin +ℤ n) (sym (mul-+ℤ spacing (pos lower) (pos a)))

index_again : (b : Bounds) (i j k : ℕ) → index_at (from_zero b) i j k ≡ index_at b (b.x0 + i) (b.y0 + j) (b.z0 + k)
index_again b i j k =
    let x : b.x0 + i - b.x0 ≡ i - 0 = omega arith in
    let y : b.y0 + j - b.y0 ≡ j - 0 = omega arith in
    let z : b.z0 + k - b.z0 ≡ k - 0 = omega arith in
    rw (size_again b.x0 b.x1, size_again b.y0 b.y1, x, y, z) refl

-- a point stands where it stood
pub point_again : (i : ImageData) (a b c : ℕ) → point_at (moved i) a b c ≡ point_at i (i.extent.x0 + a) (i.extent.y0 + b) (i.extent.z0 + c)
point_again i a b c =
    rw (position_again i.origin.x i.spacing.x i.extent.x0 a, position_again i.origin.y i.spacing.y i.extent.y0 b, position_again i.origin.z i.spacing.z i.extent.z0 c, index_again i.extent a b c) refl
