-- The sides of triangles by numbers: side k of triangle i has the number 3 i + k, and runs from
-- corner k to the next one.
use Rattle.std.specs.Prelude.{◌≢◌, ℕ, ◌+◌, ◌-◌, ◌*◌, ◌/◌, ◌%◌, ◌<◌, min, max, nat_lt, List, []}
use Rattle.std.specs.Prelude.{length, slice_index, slice_index_or, if◌then◌else◌}
use Rattle.viz_strip.specs.Strips.{IsTriangle}

-- the triangle of a side
abbrev pub triangle_at : List (List ℕ) → ℕ → List ℕ
triangle_at ts r = slice_index_or ts (r / 3) []

-- the name that a side runs from
abbrev pub from_of : List (List ℕ) → ℕ → ℕ
from_of ts r = slice_index (triangle_at ts r) (r % 3)

-- the name that a side runs to
abbrev pub to_of : List (List ℕ) → ℕ → ℕ
to_of ts r = slice_index (triangle_at ts r) ((r + 1) % 3)

-- the lesser name of a side
unfoldable pub low_of : List (List ℕ) → ℕ → ℕ
low_of ts r = min (from_of ts r) (to_of ts r)

-- the greater name of a side, and whether it runs to it
unfoldable pub slot_of : List (List ℕ) → ℕ → ℕ
slot_of ts r =
    2 * max (from_of ts r) (to_of ts r) + (if nat_lt (from_of ts r) (to_of ts r) then 1 else 0)

-- the same of the side run through the other way
unfoldable pub back_of : List (List ℕ) → ℕ → ℕ
back_of ts r =
    2 * max (from_of ts r) (to_of ts r) + (if nat_lt (from_of ts r) (to_of ts r) then 0 else 1)

-- the side of the same triangle that runs from where a side runs to
abbrev pub behind_of : ℕ → ℕ
behind_of r = r - r % 3 + (r + 1) % 3

-- the side of the same triangle that runs to where a side runs from
abbrev pub before_of : ℕ → ℕ
before_of r = r - r % 3 + (r + 2) % 3

-- the sides of triangles run between different names, which are below a number
pub record HaveSides (points : ℕ) (ts : List (List ℕ)) : Type 0 where
  pub triangle : (i : ℕ) → i < length ts → IsTriangle (slice_index_or ts i [])
  pub from_below : (r : ℕ) → r < 3 * length ts → from_of ts r < points
  pub to_below : (r : ℕ) → r < 3 * length ts → to_of ts r < points
  pub apart : (r : ℕ) → r < 3 * length ts → from_of ts r ≢ to_of ts r

-- the slots of all sides, and those of them run through the other way, are below a number
pub record HaveSlots (ts : List (List ℕ)) (size : ℕ) : Type 0 where
  pub slot_below : (r : ℕ) → r < 3 * length ts → slot_of ts r < size
  pub back_below : (r : ℕ) → r < 3 * length ts → back_of ts r < size
