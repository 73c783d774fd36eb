-- Images: a number at each point of an extent (VTK User's Guide, "Simple legacy formats").
use Rattle.std.specs.Prelude.{◌≡◌, ℕ, ◌^◌, ◌≤◌, ℤ, pos, ◌+ℤ◌, ◌*ℤ◌, ◌≤ℤ◌, ◌<ℤ◌, List, length}
use Rattle.std.specs.Prelude.{slice_index_or, unsigned_abs}
use Rattle.viz_extent.specs.Extent.{Bounds, count_of, IsExtent, Has}
use Rattle.viz_extent.specs.Numbering.{index_at}
use Rattle.viz_fraction.specs.Points.{Point, numbers, reduced}
use Rattle.viz_column.specs.Numbers.{Numbers, AreInRange}

-- three numbers, along x, y and z
pub record Vector : Type 0 where
  pub x : ℤ
  pub y : ℤ
  pub z : ℤ

-- the vector that three numbers are
abbrev pub vector_of : List ℤ → Vector
vector_of ns =
    record {
      x = slice_index_or ns 0 (pos 0);
      y = slice_index_or ns 1 (pos 0);
      z = slice_index_or ns 2 (pos 0);
    }

-- an extent, the position of index 0 and the step between points in billionths, and numbers
pub record ImageData : Type 0 where
  pub extent : Bounds
  pub origin : Vector
  pub spacing : Vector
  pub values : Numbers

-- a position within 10^18 units, in billionths
abbrev pub IsPosition : ℤ → Type 0
IsPosition n = unsigned_abs n ≤ 10 ^ 27

-- all three positions lie within 10^18 units
pub record IsOrigin (v : Vector) : Type 0 where
  pub x : IsPosition v.x
  pub y : IsPosition v.y
  pub z : IsPosition v.z

-- a step between points: above 0 and at most 10^9 units, in billionths
pub record IsStep (n : ℤ) : Type 0 where
  pub above : pos 0 <ℤ n
  pub most : n ≤ℤ pos (10 ^ 18)

-- all three are steps between points
pub record IsSpacing (v : Vector) : Type 0 where
  pub x : IsStep v.x
  pub y : IsStep v.y
  pub z : IsStep v.z

-- the rule of an image: a number in range for each point, and an origin and a spacing within limits
pub record IsImage (i : ImageData) : Type 0 where
  pub extent : IsExtent i.extent
  pub range : AreInRange i.values
  pub count : length i.values.items ≡ count_of i.extent
  pub origin : IsOrigin i.origin
  pub spacing : IsSpacing i.spacing

-- the number at the point i, j, k
abbrev pub number_at : ImageData → ℕ → ℕ → ℕ → ℤ
number_at image i j k = slice_index_or image.values.items (index_at image.extent i j k) (pos 0)

-- so many billionths make 1
abbrev pub billion : ℤ
billion = pos (10 ^ 9)

-- where an index lies, in billionths
abbrev pub position : ℤ → ℤ → ℕ → ℤ
position origin spacing index = origin +ℤ spacing *ℤ pos index

-- where the lowest corner of the extent lies, in billionths
abbrev pub corner : ImageData → Vector
corner image =
    record {
      x = position image.origin.x image.spacing.x image.extent.x0;
      y = position image.origin.y image.spacing.y image.extent.y0;
      z = position image.origin.z image.spacing.z image.extent.z0;
    }

-- the point at the indices i, j, k with a scalar, in lowest terms
abbrev pub placed : Vector → Vector → ℕ → ℕ → ℕ → ℤ → Point
placed origin spacing i j k scalar =
    reduced (numbers (position origin.x spacing.x i) (position origin.y spacing.y j)
    (position origin.z spacing.z k) (scalar *ℤ billion) billion)

-- the point i, j, k of an image, with its number as the scalar
abbrev pub point_at : ImageData → ℕ → ℕ → ℕ → Point
point_at image i j k = placed image.origin image.spacing i j k (number_at image i j k)

-- the image on a part of the extent: the same place and number for each point of the part
pub record IsRestricted (whole : ImageData) (part : Bounds) (image : ImageData) : Type 0 where
  pub extent : image.extent ≡ part
  pub origin : image.origin ≡ whole.origin
  pub spacing : image.spacing ≡ whole.spacing
  pub kind : image.values.kind ≡ whole.values.kind
  pub values : (i j k : ℕ) → Has part i j k → number_at image i j k ≡ number_at whole i j k
