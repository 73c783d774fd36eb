-- An image as it is read again: its points stand where they stood (docs/FORMATS-OF-OUTPUT.md,
-- "Written files").
use Rattle.std.specs.Prelude.{◌≡◌}
use Rattle.viz_extent.specs.Extent.{Bounds, size_x, size_y, size_z}
use Rattle.viz_dataset.specs.Images.{ImageData, corner}
use Rattle.viz_legacy_read.specs.Header.{whole_of}

-- an extent of as many points along each axis, which begins at index 0
abbrev pub from_zero : Bounds → Bounds
from_zero b = whole_of (size_x b) (size_y b) (size_z b)

-- the same points and numbers, counted from index 0
abbrev pub moved : ImageData → ImageData
moved i =
    record {
      extent = from_zero i.extent;
      origin = corner i;
      spacing = i.spacing;
      values = i.values;
    }

-- the lower bound of each axis is index 0
pub record BeginsAtZero (b : Bounds) : Type 0 where
  pub x : b.x0 ≡ 0
  pub y : b.y0 ≡ 0
  pub z : b.z0 ≡ 0
