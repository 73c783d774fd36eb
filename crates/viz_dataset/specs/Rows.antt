-- A part of an image, row by row along x: words of private contracts alone.
use Rattle.std.specs.Prelude.{◌≡◌, ℕ, ◌+◌, ◌*◌, ◌/◌, ◌%◌, ◌<◌, ℤ, pos, List, length, slice_index_or}
use Rattle.viz_column.specs.Numbers.{Numbers}
use Rattle.viz_extent.specs.Extent.{Bounds, size_x, size_y, count_of, Has}
use Rattle.viz_extent.specs.Numbering.{index_at}

-- the number, in the whole, of the first point of a row of the part
abbrev pub row_start : Bounds → Bounds → ℕ → ℕ
row_start whole part row = index_at whole part.x0 (part.y0 + row % size_y part)
    (part.z0 + row / size_y part)

-- so many rows of the part are copied
pub record AreRows (whole part : Bounds) (rows : ℕ) (xs ys : List ℤ) : Type 0 where
  pub long : length ys ≡ rows * size_x part
  pub each : (r m : ℕ) → r < rows → m < size_x part
      → slice_index_or ys (r * size_x part + m) (pos 0)
      ≡ slice_index_or xs (row_start whole part r + m) (pos 0)

-- the numbers on a part of an extent: of the same kind, one for each point, the same at each
pub record AreRestricted (whole part : Bounds) (old new : Numbers) : Type 0 where
  pub kind : new.kind ≡ old.kind
  pub long : length new.items ≡ count_of part
  pub each : (i j k : ℕ) → Has part i j k
      → slice_index_or new.items (index_at part i j k) (pos 0)
      ≡ slice_index_or old.items (index_at whole i j k) (pos 0)
