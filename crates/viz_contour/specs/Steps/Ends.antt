-- An end of an edge, as the code keeps it, and the crossing between two: words of private
-- contracts alone.
use Rattle.std.specs.Prelude.{◌≡◌, ℤ, pos, ◌≤ℤ◌, ◌<ℤ◌, int_le, if◌then◌else◌}
use Rattle.viz_fraction.specs.Points.{Point, IsNarrow}
use Rattle.viz_fraction.specs.Forms.{contour_form, value_of}
use Rattle.viz_fraction.specs.Crossings.{crossing_of, IsNarrowCrossing}
use Rattle.viz_dataset.specs.Images.{ImageData}
use Rattle.viz_meaning.specs.Tetrahedra.{point_of_leaf}
use Rattle.viz_contour.specs.declared.crossings.End.{End}
use Rattle.viz_contour.specs.declared.small_ends.SmallEnd.{SmallEnd}

-- it has the point of its leaf, and the value of the contour's form there
pub record IsEnd (level : ℤ) (image : ImageData) (e : End) : Type 0 where
  pub point : e.point ≡ point_of_leaf image e.leaf
  pub above : e.above ≡ value_of (contour_form level) (point_of_leaf image e.leaf)
  pub narrow : IsNarrow e.above

-- the same of an end of 64 bits
pub record IsSmallEnd (level : ℤ) (image : ImageData) (e : SmallEnd) : Type 0 where
  pub point : e.point ≡ point_of_leaf image e.leaf
  pub above : e.above ≡ value_of (contour_form level) (point_of_leaf image e.leaf)

-- the crossing between two ends, whichever is inside, by their values
abbrev pub either_crossing : ℤ → Point → ℤ → Point → Point
either_crossing la a lb b = if int_le (pos 0) la then crossing_of la a lb b
    else crossing_of lb b la a

-- that crossing isn't wide
pub record IsNarrowEither (la : ℤ) (a : Point) (lb : ℤ) (b : Point) : Type 0 where
  pub up : pos 0 ≤ℤ la → lb <ℤ pos 0 → IsNarrowCrossing la a lb b
  pub down : pos 0 ≤ℤ lb → la <ℤ pos 0 → IsNarrowCrossing lb b la a
