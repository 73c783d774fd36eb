-- The crossings of keys by the values at their ends, as the code of a clip finds them.
use Rattle.std.specs.Prelude.{◌≡◌, ◌≢◌, ℕ, ◌<◌, ℤ, pos, List, ◌++◌, int_le, length, map}
use Rattle.std.specs.Prelude.{slice_index_or}
use Rattle.viz_fraction.specs.Points.{IsNarrow, Point}
use Rattle.viz_cells.specs.Steps.Keys.{high_of, low_of}
use Rattle.viz_cells.specs.Steps.Crossings.{IsNarrowEither, either_crossing, point_at}
use Rattle.viz_clip.specs.declared.cut_points.End.{End}

-- the value at a rank
abbrev pub value_at : List ℤ → ℕ → ℤ
value_at values r = slice_index_or values r (pos 0)

-- exactly one of a key's two ends is inside
pub record IsCutAt (values : List ℤ) (points : List Point) (key : ℕ) : Type 0 where
  pub matched : length values ≡ length points
  pub rises : low_of key < high_of key
  pub below : high_of key < length points
  pub apart : int_le (pos 0) (value_at values (low_of key))
      ≢ int_le (pos 0) (value_at values (high_of key))

-- an end has the point and the value of its rank
pub record IsEndAt (values : List ℤ) (points : List Point) (r : ℕ) (e : End) : Type 0 where
  pub point : e.point ≡ point_at points r
  pub above : e.above ≡ value_at values r
  pub narrow : IsNarrow e.above

-- the crossing of a key
unfoldable pub cut_point : List ℤ → List Point → ℕ → Point
cut_point values points key =
    either_crossing (value_at values (low_of key)) (point_at points (low_of key))
    (value_at values (high_of key)) (point_at points (high_of key))

-- it isn't wide
abbrev pub IsNarrowCut : List ℤ → List Point → ℕ → Type 0
IsNarrowCut values points key =
    IsNarrowEither (value_at values (low_of key)) (point_at points (low_of key))
    (value_at values (high_of key)) (point_at points (high_of key))

-- the points of corners, and then the crossings
abbrev pub kept_points : List ℕ → List ℤ → List ℕ → List Point → List Point
kept_points corners values keys points =
    map (point_at points) corners ++ map (cut_point values points) keys
