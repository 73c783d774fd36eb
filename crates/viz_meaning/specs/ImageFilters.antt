-- Filters of whole images: crop, sample, threshold, box mean and arithmetic (VTK User's Guide:
-- vtkExtractVOI, vtkImageThreshold, vtkImageMathematics).
use Rattle.std.specs.Prelude.{ℕ, zero, suc, ◌+◌, ◌*◌, ◌/◌, ℤ, pos, negsuc, ◌+ℤ◌, ◌-ℤ◌, ◌*ℤ◌}
use Rattle.std.specs.Int.{w64, int_min, int_max, saturate_signed}
use Rattle.viz_column.specs.declared.kind.Kind8.TheVariants.{I64}
use Rattle.viz_extent.specs.Extent.{Bounds, size_x, size_y, size_z, count_of}
use Rattle.viz_extent.specs.Parts.{Rate, common, grown, sampled}
use Rattle.viz_dataset.specs.Images.{Vector}
use Rattle.viz_meaning.specs.declared.op.Op.{Op}
use Rattle.viz_meaning.specs.declared.op.Op.TheVariants.{Add, Sub, Min, Max}
use Rattle.viz_meaning.specs.Threshold.{kept_value}
use Rattle.viz_meaning.specs.WholeImages.{WholeImage}

-- a crop: the points whose indices lie in the box, with the indices that they have
abbrev pub crop_of : Bounds → WholeImage → WholeImage
crop_of box w = record w { extent = common w.extent box }

-- steps that are longer by a rate along each axis
abbrev pub wider_steps : Rate → Vector → Vector
wider_steps rate v =
    record { x = v.x *ℤ pos rate.x; y = v.y *ℤ pos rate.y; z = v.z *ℤ pos rate.z }

-- a sample: the points whose indices are multiples of the rate, with the quotients as their indices
abbrev pub sample_of : Rate → WholeImage → WholeImage
sample_of rate w = record w {
  extent = sampled rate w.extent;
  spacing = wider_steps rate w.spacing;
  number = λ i j k. w.number (i * rate.x) (j * rate.y) (k * rate.z);
}

-- a threshold: a number from lo to hi stays, and every other becomes 0
abbrev pub threshold_of : ℤ → ℤ → WholeImage → WholeImage
threshold_of lo hi w = record w { number = λ i j k. kept_value lo hi (w.number i j k) }

-- the sum of so many values, from an index on
abbrev pub sum_of : (ℕ → ℤ) → ℕ → ℕ → ℤ
sum_of f first zero = pos 0
sum_of f first (suc n) = sum_of f first n +ℤ f (first + n)

-- the sum of the numbers at all points of an extent
abbrev pub box_sum : (ℕ → ℕ → ℕ → ℤ) → Bounds → ℤ
box_sum number b =
    sum_of (λ k. sum_of (λ j. sum_of (λ i. number i j k) b.x0 (size_x b)) b.y0 (size_y b)) b.z0
    (size_z b)

-- a quotient rounded down, also below 0
abbrev pub floor_of : ℤ → ℕ → ℤ
floor_of (pos n) d = pos (n / d)
floor_of (negsuc n) d = negsuc (n / d)

-- the extent of one point
abbrev pub point_extent : ℕ → ℕ → ℕ → Bounds
point_extent i j k = record { x0 = i; x1 = i; y0 = j; y1 = j; z0 = k; z1 = k }

-- the points of the whole whose indices differ from i, j, k by at most the radius along each axis
abbrev pub box_round : ℕ → Bounds → ℕ → ℕ → ℕ → Bounds
box_round radius whole i j k = grown radius whole (point_extent i j k)

-- the mean of the numbers at all points of an extent, rounded down
abbrev pub mean_on : (ℕ → ℕ → ℕ → ℤ) → Bounds → ℤ
mean_on number b = floor_of (box_sum number b) (count_of b)

-- a box mean within a whole extent: at each point the mean over the box round it, rounded down
abbrev pub smooth_within : ℕ → Bounds → WholeImage → WholeImage
smooth_within radius whole w =
    record w { number = λ i j k. mean_on w.number (box_round radius whole i j k) }

-- a box mean of a whole image
abbrev pub smooth_of : ℕ → WholeImage → WholeImage
smooth_of radius w = smooth_within radius w.extent w

-- the sum, the difference, the lesser or the greater of two numbers
abbrev pub reckoned : Op → ℤ → ℤ → ℤ
reckoned Add m n = m +ℤ n
reckoned Sub m n = m -ℤ n
reckoned Min m n = int_min m n
reckoned Max m n = int_max m n

-- a number, or the nearer end of the range of 64 bits
abbrev pub clamped : ℤ → ℤ
clamped n = saturate_signed w64 n

-- arithmetic of two images at each point, clamped to 64 bits, in the place of the first
abbrev pub arith_of : Op → WholeImage → WholeImage → WholeImage
arith_of op a b = record a {
  kind = I64;
  number = λ i j k. clamped (reckoned op (a.number i j k) (b.number i j k));
}
