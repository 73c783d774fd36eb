-- Sums over a window that moves along an axis: words of private contracts alone.
use Rattle.std.specs.Prelude.{◌≡◌, ℕ, ◌+◌, ◌-◌, ◌*◌, ◌^◌, ◌<◌, ◌≤◌, ℤ, pos, neg_ℤ, ◌≤ℤ◌, List}
use Rattle.std.specs.Prelude.{length, slice_index_or, max, min}
use Rattle.viz_column.specs.declared.kind.Kind8.{Kind8}
use Rattle.viz_column.specs.declared.kind.Kind8.TheVariants.{I8, U8, I16, U16, I32, U32, I64, U64}
use Rattle.viz_column.specs.Numbers.{Numbers}
use Rattle.viz_extent.specs.Extent.{Bounds, size_x, size_y, size_z}
use Rattle.viz_extent.specs.Numbering.{index_at}
use Rattle.viz_extent.specs.Parts.{grown}
use Rattle.viz_meaning.specs.ImageFilters.{sum_of, floor_of, mean_on, box_round}
use Rattle.viz_image_ops.specs.Joined.{values_on}
use Rattle.viz_image_ops.specs.declared.window.Axes.{Axes}
use Rattle.viz_image_ops.specs.declared.window.Axis.{Axis}

-- the place of the first index of a window, counted from the axis' start
abbrev pub window_first : Axis → ℕ → ℕ
window_first a i = max a.lower (i - a.radius) - a.start

-- the place behind the last index of a window, counted from the axis' start
abbrev pub window_behind : Axis → ℕ → ℕ
window_behind a i = min a.upper (i + a.radius) + 1 - a.start

-- how many indices a window has
abbrev pub window_size : Axis → ℕ → ℕ
window_size a i = window_behind a i - window_first a i

-- indices from a first to a last one lie on the axis, and the windows round them in its places
pub record IsReach (a : Axis) (first last : ℕ) : Type 0 where
  pub low : a.lower ≤ first
  pub high : last ≤ a.upper
  pub limit : a.upper < 2 ^ 31
  pub start : a.start ≤ max a.lower (first - a.radius)
  pub end : min a.upper (last + a.radius) + 1 - a.start ≤ a.places

-- the points of an extent do along each axis, and there are fewer than 2^31 places in all
pub record AreReaches (axes : Axes) (out : Bounds) : Type 0 where
  pub x : IsReach axes.x out.x0 out.x1
  pub y : IsReach axes.y out.y0 out.y1
  pub z : IsReach axes.z out.z0 out.z1
  pub few : axes.x.places * axes.y.places * axes.z.places < 2 ^ 31

-- a number from -below to above
pub record IsWithin (below above : ℕ) (z : ℤ) : Type 0 where
  pub at_least : neg_ℤ (pos below) ≤ℤ z
  pub at_most : z ≤ℤ pos above

-- all numbers are from -below to above
abbrev pub AreWithin : ℕ → ℕ → List ℤ → Type 0
AreWithin below above xs = (p : ℕ) → p < length xs
    → IsWithin below above (slice_index_or xs p (pos 0))

-- so many numbers of a list may be summed up in 128 bits
pub record HasRoom (count : ℕ) (xs : List ℤ) : Type 0 where
  pub bound : ℕ
  pub within : AreWithin bound bound xs
  pub most : count * bound ≤ 2 ^ 96

-- the sum, over lists of one length that follow each other, of the numbers at one place of each
abbrev pub place_sum : List ℤ → ℕ → ℕ → ℕ → ℕ → ℤ
place_sum xs long first count p = sum_of (λ c. slice_index_or xs (c * long + p) (pos 0)) first count

-- the sums at each place
abbrev pub ArePlaceSums : List ℤ → ℕ → ℕ → List ℤ → Type 0
ArePlaceSums xs first behind sums =
    (p : ℕ) → p < length sums → slice_index_or sums p (pos 0)
    ≡ place_sum xs (length sums) first (behind - first) p

-- how far the numbers of a kind reach below 0
abbrev pub reach_below : Kind8 → ℕ
reach_below I8 = 2 ^ 7
reach_below U8 = 0
reach_below I16 = 2 ^ 15
reach_below U16 = 0
reach_below I32 = 2 ^ 31
reach_below U32 = 0
reach_below I64 = 2 ^ 63
reach_below U64 = 0

-- how far they reach above 0
abbrev pub reach_above : Kind8 → ℕ
reach_above I8 = 2 ^ 7 - 1
reach_above U8 = 2 ^ 8 - 1
reach_above I16 = 2 ^ 15 - 1
reach_above U16 = 2 ^ 16 - 1
reach_above I32 = 2 ^ 31 - 1
reach_above U32 = 2 ^ 32 - 1
reach_above I64 = 2 ^ 63 - 1
reach_above U64 = 2 ^ 64 - 1

-- each number is a sum of so many numbers of a kind, by its size
abbrev pub AreSumsOf : Kind8 → ℕ → List ℤ → Type 0
AreSumsOf kind count xs = AreWithin (count * reach_below kind) (count * reach_above kind) xs

-- the mean in a window of a row, whose numbers are sums of so many each
abbrev pub row_mean : List ℤ → ℕ → Axis → ℕ → ℤ
row_mean row rows x i =
    floor_of (sum_of (λ p. slice_index_or row p (pos 0)) (window_first x i) (window_size x i))
    (rows * window_size x i)

-- the mean in a window of a plane, whose numbers are sums of so many each
abbrev pub plane_mean : List ℤ → ℕ → Axes → ℕ → ℕ → ℤ
plane_mean plane planes a i j =
    floor_of
    (sum_of (λ p. place_sum plane a.x.places (window_first a.y j) (window_size a.y j) p)
    (window_first a.x i) (window_size a.x i))
    (planes * window_size a.y j * window_size a.x i)

-- the mean in a window of all numbers
abbrev pub place_mean : List ℤ → Axes → ℕ → ℕ → ℕ → ℤ
place_mean xs a i j k =
    floor_of
    (sum_of (λ p. sum_of (λ b. place_sum xs (a.x.places * a.y.places) (window_first a.z k)
    (window_size a.z k) (b * a.x.places + p)) (window_first a.y j) (window_size a.y j))
    (window_first a.x i) (window_size a.x i))
    (window_size a.z k * window_size a.y j * window_size a.x i)

-- the axes of a whole, and the places of the points round those of a part
abbrev pub round_axes : ℕ → Bounds → Bounds → Axes
round_axes radius whole out =
    let round = grown radius whole out in
    record {
      x =
          record {
            radius = radius;
            lower = whole.x0;
            upper = whole.x1;
            start = round.x0;
            places = size_x round;
          };
      y =
          record {
            radius = radius;
            lower = whole.y0;
            upper = whole.y1;
            start = round.y0;
            places = size_y round;
          };
      z =
          record {
            radius = radius;
            lower = whole.z0;
            upper = whole.z1;
            start = round.z0;
            places = size_z round;
          };
    }

-- of the same kind, for each point of an extent the mean of the numbers round it
abbrev pub AreMeans : ℕ → Bounds → Bounds → Numbers → Numbers → Type 0
AreMeans radius whole out old new =
    new ≡ record {
      kind = old.kind;
      items = values_on
          (λ i j k. mean_on (λ i j k. slice_index_or old.items
          (index_at (grown radius whole out) i j k) (pos 0))
          (box_round radius whole i j k)) out;
    }
