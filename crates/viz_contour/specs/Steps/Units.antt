-- An image whose origin and spacing are whole numbers of units: words of private contracts alone.
use Rattle.std.specs.Prelude.{◌≡◌, ℤ, pos, ◌*ℤ◌, List, slice_index_or}
use Rattle.viz_dataset.specs.Images.{Vector, ImageData, billion}
use Rattle.viz_contour.specs.declared.leaves.Units.{Units}

-- three numbers of units in billionths
abbrev pub billions_of : List ℤ → Vector
billions_of units =
    record {
      x = slice_index_or units 0 (pos 0) *ℤ billion;
      y = slice_index_or units 1 (pos 0) *ℤ billion;
      z = slice_index_or units 2 (pos 0) *ℤ billion;
    }

-- in units the origin and the spacing are these whole numbers
pub record AreUnits (image : ImageData) (u : Units) : Type 0 where
  pub origin : image.origin ≡ billions_of u.origin
  pub spacing : image.spacing ≡ billions_of u.spacing
