-- The points of a sample, and their numbers.
use Rattle.std.proofs.Common.{◌≡◌, ℕ, ◌+◌, ◌-◌, ◌*◌, ◌/◌, ◌<◌, ◌≤◌, ℤ, pos, List, length, map, get_or, sym, ap, ◌∙◌, arith}
use Rattle.std.proofs.lemmas.List.{get_or-map}
use Rattle.viz_extent.specs.Extent.{Bounds, size_x, plane_size, count_of, Has}
use Rattle.viz_extent.specs.Numbering.{index_at}
use Rattle.viz_extent.specs.Parts.{IsAxisPart, IsPart, Rate, IsRate, first_kept, spread}
use Rattle.viz_extent.proofs.NumberingLemmas.{index_at_below}
use Rattle.viz_extent.proofs.PartLemmas.{points_of_part, spread_points, multiple_from, multiple_to}
use Rattle.viz_dataset.specs.Images.{ImageData, IsImage}
use Rattle.viz_meaning.specs.ImageFilters.{sample_of, wider_steps}
use Rattle.viz_meaning.specs.WholeImages.{GivesOn}
use Rattle.viz_image_ops.specs.Determined.{SamplesAskWithin}
use Rattle.viz_image_ops.specs.Joined.{values_on}
use Rattle.viz_image_ops.specs.Steps.{sampled_at}
use Rattle.viz_image_ops.proofs.JoinedLemmas.{get_or-values_on}

-- the value of an item that was read
pub value_read : {X : Type 0} (value : X → ℤ) (xs : List X) (i : ℕ) (x : X) → i < length xs → x ≡ get_or xs i x
    → value x ≡ get_or (map value xs) i (pos 0)
value_read value xs i x below is = ap value is ∙ sym (get_or-map value xs i x (pos 0) below)

-- the whole has the multiples of a point
pub has_multiples : (whole out : Bounds) (rate : Rate) (i j k : ℕ) → IsRate rate → IsPart whole (spread rate out) → Has out i j k
    → Has whole (i * rate.x) (j * rate.y) (k * rate.z)
has_multiples whole out rate i j k some within has =
    points_of_part whole (spread rate out) within (i * rate.x) (j * rate.y) (k * rate.z) ((spread_points rate out some i j k).0 has)

-- along a row, the number of a multiple goes on by the rate
pub multiple_along : (b : Bounds) (x r m j k : ℕ) → b.x0 ≤ x * r → index_at b (x * r) j k + m * r ≡ index_at b ((x + m) * r) j k
multiple_along b x r m j k from =
    let product : (x + m) * r ≡ x * r + m * r = omega arith in
    rw product (along (x * r) (m * r) b.x0 ((j - b.y0) * size_x b) ((k - b.z0) * plane_size b) from)
  where
    along : (a n low y z : ℕ) → low ≤ a → (a - low) + y + z + n ≡ (a + n - low) + y + z
    along a n low y z from = omega arith

-- a multiple of the row's points is in the numbers
pub multiple_below : (whole out : Bounds) (rate : Rate) (m j k : ℕ) → IsRate rate → IsPart whole (spread rate out) → Has out (out.x0 + m) j k
    → index_at whole (out.x0 * rate.x) (j * rate.y) (k * rate.z) + m * rate.x < count_of whole
multiple_below whole out rate m j k some within has =
    let from : whole.x0 ≤ out.x0 * rate.x = within.x.first in
    let there = has_multiples whole out rate (out.x0 + m) j k some within has in
    rw (multiple_along whole out.x0 rate.x m (j * rate.y) (k * rate.z) from) (index_at_below whole ((out.x0 + m) * rate.x) (j * rate.y) (k * rate.z) there)

-- an image of the numbers at the multiples is the part of the sample
pub sampled-on : (rate : Rate) (input output : ImageData) (out : Bounds) → IsRate rate → IsPart input.extent (spread rate out) → output.extent ≡ out
    → output.origin ≡ input.origin → output.spacing ≡ wider_steps rate input.spacing → output.values.kind ≡ input.values.kind
    → output.values.items ≡ values_on (sampled_at input.values.items input.extent rate) out → IsImage output → GivesOn (sample_of rate) input out output
sampled-on rate input output out some within extent origin spacing kind items valid w on =
    record {
      extent = extent;
      origin = origin ∙ on.origin;
      spacing = spacing ∙ ap (wider_steps rate) on.spacing;
      kind = kind ∙ on.kind;
      numbers = λ i j k has.
          ap (λ (e : Bounds). get_or output.values.items (index_at e i j k) (pos 0)) extent
          ∙ ap (λ (xs : List ℤ). get_or xs (index_at out i j k) (pos 0)) items
          ∙ get_or-values_on (sampled_at input.values.items input.extent rate) out i j k (pos 0) has
          ∙ on.numbers (i * rate.x) (j * rate.y) (k * rate.z) (has_multiples input.extent out rate i j k some within has);
      valid = valid;
    }

-- what a part of a sample asks for lies in the whole
pub samples_ask_within : SamplesAskWithin
samples_ask_within rate whole out some part =
    record {
      x = axis whole.x0 whole.x1 rate.x out.x0 out.x1 some.x.least part.x;
      y = axis whole.y0 whole.y1 rate.y out.y0 out.y1 some.y.least part.y;
      z = axis whole.z0 whole.z1 rate.z out.z0 out.z1 some.z.least part.z;
    }
  where
    axis : (lower upper r first last : ℕ) → 1 ≤ r → IsAxisPart (first_kept lower r) (upper / r) first last → IsAxisPart lower upper (first * r) (last * r)
    axis lower upper r first last some part = record {
      first = multiple_from lower r first some part.first;
      last = multiple_to upper r last some part.last;
    }
