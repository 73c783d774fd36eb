-- Links between sides: from a side to the first one that runs through it the other way, and to the
-- next one that runs as it does.
use Rattle.std.specs.Prelude.{◌≡◌, ℕ, ◌+◌, ◌-◌, ◌*◌, ◌/◌, ◌<◌, ◌≤◌, Bool, true, false, List}
use Rattle.std.specs.Prelude.{length, slice_index}
use Rattle.viz_strip.specs.Steps.Marks.{is_taken}
use Rattle.viz_strip.specs.Steps.Sides.{back_of, from_of, low_of, slot_of, to_of}

-- one more than the last side below a bound whose lesser name is this one, or 0 where there is none
pub record IsLast (ts : List (List ℕ)) (low bound x : ℕ) : Type 0 where
  pub within : x ≤ bound
  pub is : 0 < x → low_of ts (x - 1) ≡ low
  pub most : (r : ℕ) → r < bound → low_of ts r ≡ low → r < x

-- of the first so many sides: for each name the last one, and for each side the one before it
pub record AreChained (ts : List (List ℕ)) (count : ℕ) (lasts befores : List ℕ) : Type 0 where
  pub last : (low : ℕ) → low < length lasts → IsLast ts low count (slice_index lasts low)
  pub before : (r : ℕ) → r < count → IsLast ts (low_of ts r) r (slice_index befores r)

-- the first side from a number on that has this lesser name and slot, or none of them all
pub record IsNext (ts : List (List ℕ)) (low slot from q : ℕ) : Type 0 where
  pub past : from ≤ q
  pub low_is : q < 3 * length ts → low_of ts q ≡ low
  pub slot_is : q < 3 * length ts → slot_of ts q ≡ slot
  pub least : (r : ℕ) → from ≤ r → r < 3 * length ts → low_of ts r ≡ low → slot_of ts r ≡ slot
      → q ≤ r

-- for each slot the first side from a bound on that has this lesser name, or an earlier side of a
-- lower one, or none
pub record IsSeen (ts : List (List ℕ)) (low bound : ℕ) (seen : List ℕ) : Type 0 where
  pub slot_is : (k : ℕ) → k < length seen → slice_index seen k < 3 * length ts
      → slot_of ts (slice_index seen k) ≡ k
  pub most : (k : ℕ) → k < length seen → slice_index seen k < 3 * length ts
      → low_of ts (slice_index seen k) ≤ low
  pub past : (k : ℕ) → k < length seen → slice_index seen k < 3 * length ts
      → low_of ts (slice_index seen k) ≡ low → bound ≤ slice_index seen k
  pub has : (r : ℕ) → bound ≤ r → r < 3 * length ts → low_of ts r ≡ low
      → (slice_index seen (slot_of ts r) ≤ r) × (low_of ts (slice_index seen (slot_of ts r)) ≡ low)

-- the links of sides with a lower name than this, and of those with it from a bound on, to the next
-- side
pub record HaveNexts (ts : List (List ℕ)) (low bound : ℕ) (nexts : List ℕ) : Type 0 where
  pub lower : (r : ℕ) → r < 3 * length ts → low_of ts r < low
      → IsNext ts (low_of ts r) (slot_of ts r) (r + 1) (slice_index nexts r)
  pub same : (r : ℕ) → bound ≤ r → r < 3 * length ts → low_of ts r ≡ low
      → IsNext ts (low_of ts r) (slot_of ts r) (r + 1) (slice_index nexts r)

-- and to the first side that runs the other way
pub record HaveFirsts (ts : List (List ℕ)) (low bound : ℕ) (firsts : List ℕ) : Type 0 where
  pub lower : (r : ℕ) → r < 3 * length ts → low_of ts r < low
      → IsNext ts (low_of ts r) (back_of ts r) 0 (slice_index firsts r)
  pub same : (r : ℕ) → bound ≤ r → r < 3 * length ts → low_of ts r ≡ low
      → IsNext ts (low_of ts r) (back_of ts r) 0 (slice_index firsts r)

-- the first side from a number on that runs from u to v, but for sides of triangles that are taken
pub record IsMet (ts : List (List ℕ)) (marks : List Bool) (u v from q : ℕ) : Type 0 where
  pub past : from ≤ q
  pub from_is : q < 3 * length ts → from_of ts q ≡ u
  pub to_is : q < 3 * length ts → to_of ts q ≡ v
  pub least : (r : ℕ) → from ≤ r → r < q → r < 3 * length ts → from_of ts r ≡ u → to_of ts r ≡ v
      → is_taken marks (r / 3) ≡ true

-- from each side to the first that runs the other way
pub record LeadBack (ts : List (List ℕ)) (marks : List Bool) (firsts : List ℕ) : Type 0 where
  pub each : (r : ℕ) → r < 3 * length ts
      → IsMet ts marks (to_of ts r) (from_of ts r) 0 (slice_index firsts r)

-- and to the next that runs as it does
pub record LeadOn (ts : List (List ℕ)) (marks : List Bool) (nexts : List ℕ) : Type 0 where
  pub each : (r : ℕ) → r < 3 * length ts
      → IsMet ts marks (from_of ts r) (to_of ts r) (r + 1) (slice_index nexts r)

-- the first side from u to v of all triangles that aren't taken
pub record IsFree (ts : List (List ℕ)) (marks : List Bool) (u v q : ℕ) : Type 0 where
  pub within : q < 3 * length ts
  pub free : is_taken marks (q / 3) ≡ false
  pub from_is : from_of ts q ≡ u
  pub to_is : to_of ts q ≡ v
  pub first : (r : ℕ) → r < q → r < 3 * length ts → from_of ts r ≡ u → to_of ts r ≡ v
      → is_taken marks (r / 3) ≡ true

-- each triangle with a side from u to v is taken
pub record NoneIsFree (ts : List (List ℕ)) (marks : List Bool) (u v : ℕ) : Type 0 where
  pub taken : (r : ℕ) → r < 3 * length ts → from_of ts r ≡ u → to_of ts r ≡ v
      → is_taken marks (r / 3) ≡ true
