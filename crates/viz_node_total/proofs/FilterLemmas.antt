-- What each filter of images makes of images has an image, where its grid is told.
use Rattle.std.proofs.Common.{
  ◌≡◌,
  ℕ,
  ◌+◌,
  ◌-◌,
  ◌*◌,
  ◌^◌,
  ◌<◌,
  ◌≤◌,
  ℤ,
  pos,
  negsuc,
  Bool,
  true,
  false,
  cond,
  max,
  min,
  subst,
  arith,
}
use Rattle.std.specs.Int.{saturate_signed, w128}
use Rattle.std.specs.Prelude.{int_le, ◌*ℤ◌, ◌<ℤ◌, ◌≤ℤ◌}
use Rattle.std.proofs.lemmas.Int.{ints}
use Rattle.viz_column.specs.declared.kind.Kind8.{Kind8}
use Rattle.viz_column.specs.declared.kind.Kind8.TheVariants.{I64}
use Rattle.viz_column.specs.Kinds.{fits}
use Rattle.viz_dataset.specs.Images.{ImageData, IsImage, IsStep, Vector, number_at}
use Rattle.viz_extent.specs.Extent.{Bounds, Has, count_of, size_of, size_x, size_y, size_z}
use Rattle.viz_extent.specs.Parts.{IsPart, IsRate, Rate, common, sampled}
use Rattle.viz_extent.proofs.PartLemmas.{
  part_extent,
  points_of_part,
  sampled_extent,
  sampled_points,
}
use Rattle.viz_image_ops.specs.Sums.{IsWithin, reach_above, reach_below}
use Rattle.viz_image_ops.proofs.MeanLemmas.{mean_fits, some_product, within_fits}
use Rattle.viz_image_ops.proofs.SumLemmas.{sum_within}
use Rattle.viz_meaning.specs.ImageFilters.{
  arith_of,
  box_round,
  box_sum,
  clamped,
  crop_of,
  reckoned,
  sample_of,
  smooth_of,
  sum_of,
  threshold_of,
}
use Rattle.viz_meaning.specs.Threshold.{is_within}
use Rattle.viz_meaning.specs.WholeImages.{whole_of}
use Rattle.viz_meaning.specs.declared.op.Op.{Op}
use Rattle.viz_node_total.proofs.ArrayLemmas.{zero_fits}
use Rattle.viz_node_total.proofs.ImageLemmas.{OwnsImage, number_fits}

-- ---- extents

-- lower bounds are at most upper ones
pub record IsOrdered (b : Bounds) : Type 0 where
  pub x : b.x0 ≤ b.x1
  pub y : b.y0 ≤ b.y1
  pub z : b.z0 ≤ b.z1

-- what is common to an extent and a box is a part of the extent
common_part : (b box : Bounds) → IsPart b (common b box)
common_part b box = record {
  x = record { first = omega arith; last = omega arith };
  y = record { first = omega arith; last = omega arith };
  z = record { first = omega arith; last = omega arith };
}

pub crop_owns : (box : Bounds) (image : ImageData) → IsImage image
    → IsOrdered (common image.extent box) → OwnsImage (crop_of box (whole_of image))
crop_owns box image valid order =
    let out = common image.extent box in
    let part = common_part image.extent box in
    record {
      extent = part_extent image.extent out valid.extent part order.x order.y order.z;
      origin = valid.origin;
      spacing = valid.spacing;
      numbers = λ i j k has.
          number_fits image i j k valid (points_of_part image.extent out part i j k has);
    }

-- ---- samples

-- a step that is longer by a rate, and not too wide
longer_step : (n : ℤ) (r : ℕ) → IsStep n → 1 ≤ r → (n *ℤ pos r) ≤ℤ pos (10 ^ 18)
    → IsStep (n *ℤ pos r)
longer_step n r step some most =
    let up = step.above in
    record { above = positive n r up some; most = most }
  where
    positive : (n : ℤ) (r : ℕ) → pos 0 <ℤ n → 1 ≤ r → pos 0 <ℤ (n *ℤ pos r)
    positive (pos m) r up some =
        let product : 0 < m * r = some_product m r (omega (arith, ints, up)) (omega arith) in
        omega (arith, ints, product)
    positive (negsuc m) r up some = (let bad : ⊥ = omega (arith, ints, up) in absurd bad)

-- a length that isn't too wide in 128 bits isn't at all
pub short_length : (z : ℤ) → int_le (saturate_signed w128 z) (pos (10 ^ 18)) ≡ true
    → z ≤ℤ pos (10 ^ 18)
short_length z short = grind (arith, ints)

-- the steps of a sample aren't too wide
pub record AreShort (rate : Rate) (v : Vector) : Type 0 where
  pub x : (v.x *ℤ pos rate.x) ≤ℤ pos (10 ^ 18)
  pub y : (v.y *ℤ pos rate.y) ≤ℤ pos (10 ^ 18)
  pub z : (v.z *ℤ pos rate.z) ≤ℤ pos (10 ^ 18)

pub sample_owns : (rate : Rate) (image : ImageData) → IsRate rate → IsImage image
    → IsOrdered (sampled rate image.extent) → AreShort rate image.spacing
    → OwnsImage (sample_of rate (whole_of image))
sample_owns rate image some valid order short =
    let step = image.spacing in
    let steps = valid.spacing in
    record {
      extent = sampled_extent rate image.extent some valid.extent order.x order.y order.z;
      origin = valid.origin;
      spacing = record {
        x = longer_step step.x rate.x steps.x some.x.least short.x;
        y = longer_step step.y rate.y steps.y some.y.least short.y;
        z = longer_step step.z rate.z steps.z some.z.least short.z;
      };
      numbers = λ i j k has.
          number_fits image (i * rate.x) (j * rate.y) (k * rate.z) valid
          ((sampled_points rate image.extent some i j k).0 has);
    }

-- ---- thresholds

kept_fits : (kind : Kind8) (n : ℤ) (b : Bool) → fits kind n ≡ true
    → fits kind (cond b n (pos 0)) ≡ true
kept_fits kind n true fit = fit
kept_fits kind n false fit = zero_fits kind

pub threshold_owns : (lo hi : ℤ) (image : ImageData) → IsImage image
    → OwnsImage (threshold_of lo hi (whole_of image))
threshold_owns lo hi image valid = record {
  extent = valid.extent;
  origin = valid.origin;
  spacing = valid.spacing;
  numbers = λ i j k has.
      let n = number_at image i j k in
      kept_fits image.values.kind n (is_within lo hi n) (number_fits image i j k valid has);
}

-- ---- means

-- an index of a window round an index on an axis lies on the axis
on_axis : (low high radius i m : ℕ) → low ≤ i → i ≤ high
    → m < size_of (max low (i - radius)) (min high (i + radius))
    → (low ≤ max low (i - radius) + m) × (max low (i - radius) + m ≤ high)
on_axis low high radius i m from to below = (omega arith, omega arith)

-- a point of the box round a point is a point
box_has : (radius : ℕ) (b : Bounds) (i j k l m n : ℕ) → Has b i j k
    → l < size_x (box_round radius b i j k) → m < size_y (box_round radius b i j k)
    → n < size_z (box_round radius b i j k)
    → Has b (max b.x0 (i - radius) + l) (max b.y0 (j - radius) + m) (max b.z0 (k - radius) + n)
box_has radius b i j k l m n has in_x in_y in_z =
    let x = on_axis b.x0 b.x1 radius i l has.x.at_least has.x.at_most in_x in
    let y = on_axis b.y0 b.y1 radius j m has.y.at_least has.y.at_most in_y in
    let z = on_axis b.z0 b.z1 radius k n has.z.at_least has.z.at_most in_z in
    record {
      x = record { at_least = x.0; at_most = x.1 };
      y = record { at_least = y.0; at_most = y.1 };
      z = record { at_least = z.0; at_most = z.1 };
    }

-- so many numbers in three sums
three_sizes : (x y z bound : ℕ) → z * (y * (x * bound)) ≡ x * y * z * bound
three_sizes x y z bound = omega arith

-- the sum of numbers of a type on a box lies where so many of it do
box_within : (kind : Kind8) (f : ℕ → ℕ → ℕ → ℤ) (b : Bounds)
    → ((l m n : ℕ) → l < size_x b → m < size_y b → n < size_z b
    → IsWithin (reach_below kind) (reach_above kind) (f (b.x0 + l) (b.y0 + m) (b.z0 + n)))
    → IsWithin (count_of b * reach_below kind) (count_of b * reach_above kind) (box_sum f b)
box_within kind f b each =
    let low = reach_below kind in
    let high = reach_above kind in
    let w = size_x b in
    let h = size_y b in
    let d = size_z b in
    let sum = sum_within (h * (w * low)) (h * (w * high))
    (λ k. sum_of (λ j. sum_of (λ i. f i j k) b.x0 w) b.y0 h) b.z0 d (λ n in_z.
    sum_within (w * low) (w * high) (λ j. sum_of (λ i. f i j (b.z0 + n)) b.x0 w) b.y0 h
    (λ m in_y.
    sum_within low high (λ i. f i (b.y0 + m) (b.z0 + n)) b.x0 w
    (λ l in_x. each l m n in_x in_y in_z))) in
    let total = box_sum f b in
    subst (λ (t : ℕ). IsWithin t (count_of b * high) total) (three_sizes w h d low)
    (subst (λ (t : ℕ). IsWithin (d * (h * (w * low))) t total) (three_sizes w h d high) sum)

some_points : (b : Bounds) → 0 < count_of b
some_points b =
    some_product (size_x b * size_y b) (size_z b)
    (some_product (size_x b) (size_y b) (omega arith) (omega arith)) (omega arith)

pub smooth_owns : (radius : ℕ) (image : ImageData) → IsImage image
    → OwnsImage (smooth_of radius (whole_of image))
smooth_owns radius image valid =
    let b = image.extent in
    let kind = image.values.kind in
    let number = number_at image in
    record {
      extent = valid.extent;
      origin = valid.origin;
      spacing = valid.spacing;
      numbers = λ i j k has.
          let box = box_round radius b i j k in
          mean_fits kind (box_sum number box) (count_of box) (some_points box)
          (box_within kind number box (λ l m n in_x in_y in_z.
          let p = box.x0 + l in
          let q = box.y0 + m in
          let r = box.z0 + n in
          let inside = box_has radius b i j k l m n has in_x in_y in_z in
          within_fits kind (number p q r) (number_fits image p q r valid inside)));
    }

-- ---- arithmetic

-- 64 bits hold what is clamped to them
clamped_fits : (n : ℤ) → fits I64 (clamped n) ≡ true
clamped_fits (pos n) = grind arith
clamped_fits (negsuc n) = grind arith

pub arith_owns : (op : Op) (a b : ImageData) → IsImage a
    → OwnsImage (arith_of op (whole_of a) (whole_of b))
arith_owns op a b valid = record {
  extent = valid.extent;
  origin = valid.origin;
  spacing = valid.spacing;
  numbers = λ i j k has. clamped_fits (reckoned op (number_at a i j k) (number_at b i j k));
}
