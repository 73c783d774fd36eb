-- What is told of a filter's image shows of the images at its ports.
use Rattle.std.proofs.Common.{◌≡◌, ℕ, ◌^◌, pos, Bool, true, false, cond, Ok, Err, refl, arith}
use Rattle.std.specs.Prelude.{int_le, nat_le, ◌&&◌, ◌*ℤ◌}
use Rattle.std.proofs.lemmas.Bool.{and_parts, leb-true}
use Rattle.viz_dataset.specs.Images.{ImageData, IsImage, Vector}
use Rattle.viz_extent.specs.Extent.{Bounds}
use Rattle.viz_extent.specs.Parts.{IsRate, Rate, common, sampled}
use Rattle.viz_meaning.specs.ImageFilters.{crop_of, sample_of}
use Rattle.viz_meaning.specs.WholeImages.{whole_of}
use Rattle.viz_network.specs.declared.fault.Cause.TheVariants.{EmptyExtent, TooWide}
use Rattle.viz_node_meaning.specs.Information.{
  and_then,
  as_image,
  cropped,
  grid_of,
  has_points,
  is_short,
  lengths_of,
  longer,
  longer_step,
  rate_with,
  thinned,
  with_steps,
}
use Rattle.viz_node_meaning.specs.declared.information.Grid.{Grid}
use Rattle.viz_node_meaning.specs.declared.information.Information.{Information}
use Rattle.viz_node_total.proofs.FilterLemmas.{
  AreShort,
  IsOrdered,
  crop_owns,
  sample_owns,
  short_length,
}
use Rattle.viz_node_total.proofs.ImageLemmas.{OwnsImage}

-- the axes of bounds with points have their order
ordered : (b : Bounds) → has_points b ≡ true → IsOrdered b
ordered b h =
    let all = and_parts (nat_le b.x0 b.x1 && nat_le b.y0 b.y1) (nat_le b.z0 b.z1) h in
    let two = and_parts (nat_le b.x0 b.x1) (nat_le b.y0 b.y1) all.0 in
    record {
      x = leb-true b.x0 b.x1 two.0;
      y = leb-true b.y0 b.y1 two.1;
      z = leb-true b.z0 b.z1 all.1;
    }

-- steps that are short in 128 bits are
short_steps : (rate : Rate) (v : Vector) → is_short (longer rate (lengths_of v)) ≡ true
    → AreShort rate v
short_steps rate v h =
    let most = pos (10 ^ 18) in
    let x = int_le (longer_step v.x rate.x) most in
    let y = int_le (longer_step v.y rate.y) most in
    let z = int_le (longer_step v.z rate.z) most in
    let all = and_parts (x && y) z h in
    let two = and_parts x y all.0 in
    record {
      x = short_length (v.x *ℤ pos rate.x) two.0;
      y = short_length (v.y *ℤ pos rate.y) two.1;
      z = short_length (v.z *ℤ pos rate.z) all.1;
    }

-- an image is told of a grid where points are left
left : (b : Bool) (g : Grid) (i : Information)
    → as_image (cond b (Ok g) (Err EmptyExtent)) ≡ Ok i → b ≡ true
left true g i e = refl
left false g i e = let bad : ⊥ = cc in absurd bad

-- where its steps aren't too wide
narrow : (b : Bool) (g : Grid) (i : Information)
    → as_image (cond b (Ok g) (Err TooWide)) ≡ Ok i → b ≡ true
narrow true g i e = refl
narrow false g i e = let bad : ⊥ = cc in absurd bad

both : (b : Bool) (g : Grid) (i : Information)
    → as_image (and_then (cond b (Ok g) (Err EmptyExtent)) with_steps) ≡ Ok i
    → (b ≡ true) × (is_short g.spacing ≡ true)
both true g i e = (refl, narrow (is_short g.spacing) g i e)
both false g i e = let bad : ⊥ = cc in absurd bad

-- the grid of an image
abbrev pub grid_on : ImageData → Grid
grid_on image = grid_of image.extent image.origin image.spacing

-- where an image is told of a crop, the crop of an image has one
pub crop_told : (box : Bounds) (image : ImageData) (i : Information) → IsImage image
    → as_image (cropped box (grid_on image)) ≡ Ok i → OwnsImage (crop_of box (whole_of image))
crop_told box image i valid e =
    let out = common image.extent box in
    let g : Grid = record {
      extent = out;
      origin = lengths_of image.origin;
      spacing = lengths_of image.spacing;
    } in
    crop_owns box image valid (ordered out (left (has_points out) g i e))

-- so the sample of one
pub sample_told : (rate : Rate) (image : ImageData) (i : Information) → IsRate rate
    → IsImage image → as_image (thinned rate (grid_on image)) ≡ Ok i
    → OwnsImage (sample_of rate (whole_of image))
sample_told rate image i some valid e =
    let out = sampled rate image.extent in
    let g : Grid = record {
      extent = out;
      origin = lengths_of image.origin;
      spacing = longer rate (lengths_of image.spacing);
    } in
    let parts = both (has_points out) g i e in
    sample_owns rate image some valid (ordered out parts.0)
    (short_steps rate image.spacing parts.1)

-- the rate of a sample is one
pub rate_is : (x y z : ℕ) → IsRate (rate_with x y z)
rate_is x y z = record {
  x = record { least = omega arith; most = omega arith };
  y = record { least = omega arith; most = omega arith };
  z = record { least = omega arith; most = omega arith };
}
