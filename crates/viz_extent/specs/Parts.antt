-- Parts of an extent, an axis at a time, and the points that they have (VTK User's Guide, the
-- executive and "Extract subset of data").
use Rattle.std.specs.Prelude.{ℕ, ◌+◌, ◌-◌, ◌*◌, ◌/◌, ◌≤◌, ◌↔◌, List, slice_index, min, max}
use Rattle.viz_extent.specs.Extent.{Bounds, IsOnAxis, Has}

-- a part of an axis lies on the axis
pub record IsAxisPart (lower upper part_lower part_upper : ℕ) : Type 0 where
  pub first : lower ≤ part_lower
  pub last : part_upper ≤ upper

-- the part lies in the extent
pub record IsPart (whole part : Bounds) : Type 0 where
  pub x : IsAxisPart whole.x0 whole.x1 part.x0 part.x1
  pub y : IsAxisPart whole.y0 whole.y1 part.y0 part.y1
  pub z : IsAxisPart whole.z0 whole.z1 part.z0 part.z1

-- every point of the other extent is a point of the whole
abbrev pub HasAll : Bounds → Bounds → Type 0
HasAll whole other = (i j k : ℕ) → Has other i j k → Has whole i j k

-- what two extents have in common: from the greater lower bound to the lesser upper one
abbrev pub common : Bounds → Bounds → Bounds
common a b =
    record {
      x0 = max a.x0 b.x0;
      x1 = min a.x1 b.x1;
      y0 = max a.y0 b.y0;
      y1 = min a.y1 b.y1;
      z0 = max a.z0 b.z0;
      z1 = min a.z1 b.z1;
    }

-- a point that both have
pub record CommonPoint (a b : Bounds) : Type 0 where
  pub i : ℕ
  pub j : ℕ
  pub k : ℕ
  pub first : Has a i j k
  pub second : Has b i j k

-- just the points that both have
abbrev pub HasCommon : Bounds → Bounds → Bounds → Type 0
HasCommon a b both = (i j k : ℕ) → Has both i j k ↔ (Has a i j k × Has b i j k)

-- an extent with so many planes more on each side, as far as the whole reaches
abbrev pub grown : ℕ → Bounds → Bounds → Bounds
grown by whole b =
    record {
      x0 = max whole.x0 (b.x0 - by);
      x1 = min whole.x1 (b.x1 + by);
      y0 = max whole.y0 (b.y0 - by);
      y1 = min whole.y1 (b.y1 + by);
      z0 = max whole.z0 (b.z0 - by);
      z1 = min whole.z1 (b.z1 + by);
    }

-- two indices differ by at most so many
pub record AreNear (by m n : ℕ) : Type 0 where
  pub above : m ≤ n + by
  pub below : n ≤ m + by

-- a point of the extent whose indices differ from i, j, k by at most so many along each axis
pub record NearPoint (b : Bounds) (by i j k : ℕ) : Type 0 where
  pub near_i : ℕ
  pub near_j : ℕ
  pub near_k : ℕ
  pub has : Has b near_i near_j near_k
  pub x : AreNear by i near_i
  pub y : AreNear by j near_j
  pub z : AreNear by k near_k

-- just the points of the whole that are near to a point of the extent
abbrev pub HasGrown : ℕ → Bounds → Bounds → Bounds → Type 0
HasGrown by whole b more =
    (i j k : ℕ) → Has more i j k ↔ (Has whole i j k × NearPoint b by i j k)

-- every how many points one is kept along x, y and z
pub record Rate : Type 0 where
  pub x : ℕ
  pub y : ℕ
  pub z : ℕ

-- the rate that three numbers are
abbrev pub rate_of : List ℕ → Rate
rate_of numbers =
    record { x = slice_index numbers 0; y = slice_index numbers 1; z = slice_index numbers 2 }

-- a rate along an axis is 1 to 1024
pub record IsAxisRate (rate : ℕ) : Type 0 where
  pub least : 1 ≤ rate
  pub most : rate ≤ 1024

-- so is each of three
pub record IsRate (rate : Rate) : Type 0 where
  pub x : IsAxisRate rate.x
  pub y : IsAxisRate rate.y
  pub z : IsAxisRate rate.z

-- the first index whose multiple by the rate is at least a lower bound: the quotient rounded up
abbrev pub first_kept : ℕ → ℕ → ℕ
first_kept lower rate = (lower + (rate - 1)) / rate

-- the kept points with their own indices: from the lower bound divided and rounded up to the upper
-- one divided and rounded down
abbrev pub sampled : Rate → Bounds → Bounds
sampled rate b =
    record {
      x0 = first_kept b.x0 rate.x;
      x1 = b.x1 / rate.x;
      y0 = first_kept b.y0 rate.y;
      y1 = b.y1 / rate.y;
      z0 = first_kept b.z0 rate.z;
      z1 = b.z1 / rate.z;
    }

-- just the points whose multiples by the rate the extent has
abbrev pub HasSampled : Rate → Bounds → Bounds → Type 0
HasSampled rate b kept =
    (i j k : ℕ) → Has kept i j k ↔ Has b (i * rate.x) (j * rate.y) (k * rate.z)

-- an index whose multiple by the rate lies on the axis
pub record KeptIndex (lower upper rate : ℕ) : Type 0 where
  pub index : ℕ
  pub on_axis : IsOnAxis lower upper (index * rate)

-- each axis keeps an index
pub record KeepsAxes (rate : Rate) (b : Bounds) : Type 0 where
  pub x : KeptIndex b.x0 b.x1 rate.x
  pub y : KeptIndex b.y0 b.y1 rate.y
  pub z : KeptIndex b.z0 b.z1 rate.z

-- each bound times its rate
abbrev pub spread : Rate → Bounds → Bounds
spread rate b =
    record {
      x0 = b.x0 * rate.x;
      x1 = b.x1 * rate.x;
      y0 = b.y0 * rate.y;
      y1 = b.y1 * rate.y;
      z0 = b.z0 * rate.z;
      z1 = b.z1 * rate.z;
    }
