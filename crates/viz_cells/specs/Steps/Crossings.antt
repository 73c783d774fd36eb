-- The crossings of keys, as the code of a section finds them.
use Rattle.std.specs.Prelude.{◌≡◌, ◌≢◌, ℕ, ◌<◌, ℤ, pos, ◌≤ℤ◌, ◌<ℤ◌, List, length, slice_index_or}
use Rattle.std.specs.Prelude.{int_le, if◌then◌else◌}
use Rattle.viz_fraction.specs.declared.forms.Form.{Form}
use Rattle.viz_fraction.specs.Points.{Point, IsNarrow}
use Rattle.viz_fraction.specs.Forms.{value_of}
use Rattle.viz_fraction.specs.Crossings.{IsNarrowCrossing, crossing_of, edge_crossing}
use Rattle.viz_meaning.specs.Section.{is_inside_at, zero_point}
use Rattle.viz_meaning.specs.Narrow.{IsNarrowEdge}
use Rattle.viz_cells.specs.declared.crossings.End.{End}
use Rattle.viz_cells.specs.Steps.Keys.{low_of, high_of}

-- the point of a rank
abbrev pub point_at : List Point → ℕ → Point
point_at points r = slice_index_or points r zero_point

-- exactly one of a key's two points is inside
pub record IsCutKey (f : Form) (points : List Point) (key : ℕ) : Type 0 where
  pub rises : low_of key < high_of key
  pub below : high_of key < length points
  pub apart : is_inside_at f (point_at points (low_of key)) ≢ is_inside_at f
      (point_at points (high_of key))

-- the crossing of a key
unfoldable pub key_crossing : Form → List Point → ℕ → Point
key_crossing f points key = edge_crossing f (point_at points (low_of key))
    (point_at points (high_of key))

-- that crossing isn't wide
abbrev pub IsNarrowKey : Form → List Point → ℕ → Type 0
IsNarrowKey f points key = IsNarrowEdge f (point_at points (low_of key))
    (point_at points (high_of key))

-- an end has a point, and the form's value there
pub record IsEnd (f : Form) (p : Point) (e : End) : Type 0 where
  pub point : e.point ≡ p
  pub above : e.above ≡ value_of f p
  pub narrow : IsNarrow e.above

-- the crossing between two ends, whichever is inside, by their values
abbrev pub either_crossing : ℤ → Point → ℤ → Point → Point
either_crossing la a lb b = if int_le (pos 0) la then crossing_of la a lb b
    else crossing_of lb b la a

-- that crossing isn't wide
pub record IsNarrowEither (la : ℤ) (a : Point) (lb : ℤ) (b : Point) : Type 0 where
  pub up : pos 0 ≤ℤ la → lb <ℤ pos 0 → IsNarrowCrossing la a lb b
  pub down : pos 0 ≤ℤ lb → la <ℤ pos 0 → IsNarrowCrossing lb b la a
