-- For each point the first one at its place, by a sort of places with their indices behind them.
use Rattle.std.specs.Prelude.{◌≡◌, ◌≢◌, ℕ, zero, suc, ◌+◌, ◌^◌, ◌<◌, ◌≤◌, ◌==◌, ℤ, pos, Bool, List}
use Rattle.std.specs.Prelude.{[], ◌∷◌, ◌++◌, length, map, take, slice_index_or, unsigned_abs}
use Rattle.std.specs.Prelude.{if◌then◌else◌}
use Rattle.std.specs.List.{range_with_len}
use Rattle.std.specs.Cmp.Lexicographic.{slice_cmp}
use Rattle.std.specs.Ordering.{int_cmp, is_eq}
use Rattle.viz_fraction.specs.Points.{Point}
use Rattle.viz_fraction.specs.Places.{place_of}

-- the place of a point, and behind it the point's index
abbrev pub key_of : ℕ → Point → List ℤ
key_of at p = place_of p ++ pos at ∷ []

-- the same of points in turn, with indices from one on
abbrev pub keys_from : ℕ → List Point → List (List ℤ)
keys_from at [] = []
keys_from at (p ∷ ps) = key_of at p ∷ keys_from (at + 1) ps

-- the place in a key, and its index
abbrev pub place_in : List ℤ → List ℤ
place_in key = take 4 key

abbrev pub index_in : List ℤ → ℕ
index_in key = unsigned_abs (slice_index_or key 4 (pos 0))

-- the key at a place of the list
abbrev pub key_at : List (List ℤ) → ℕ → List ℤ
key_at keys k = slice_index_or keys k []

-- two keys have one place
abbrev pub has_same_place : List ℤ → List ℤ → Bool
has_same_place a b = is_eq (slice_cmp int_cmp (place_in a) (place_in b))

-- the index of the first key of those with one place that stand together, up to a key
abbrev pub lead_in : List (List ℤ) → ℕ → ℕ
lead_in keys zero = index_in (key_at keys zero)
lead_in keys (suc k) = if has_same_place (key_at keys k) (key_at keys (suc k)) then lead_in keys k
    else index_in (key_at keys (suc k))

-- each index of a key is below the number of keys
pub record HaveIndices (keys : List (List ℤ)) : Type 0 where
  pub each : (k : ℕ) → k < length keys → slice_index_or (key_at keys k) 4 (pos 0)
      ≡ pos (index_in (key_at keys k))
  pub below : (k : ℕ) → k < length keys → index_in (key_at keys k) < length keys
  pub few : length keys < 2 ^ 32

-- what was written for the first so many keys: at the index of each, the lead of a key with that
-- index
pub record AreWritten (keys : List (List ℤ)) (count : ℕ) (leads : List ℕ) : Type 0 where
  pub size : length leads ≡ length keys
  pub each : (k : ℕ) → k < count → (m : ℕ) × (m < length keys)
      × (index_in (key_at keys m) ≡ index_in (key_at keys k))
      × (slice_index_or leads (index_in (key_at keys k)) 0 ≡ lead_in keys m)

-- the first of points at the place of one
pub record IsLead (points : List Point) (j lead : ℕ) : Type 0 where
  pub most : lead ≤ j
  pub same : (d : Point) → place_of (slice_index_or points lead d)
      ≡ place_of (slice_index_or points j d)
  pub first : (i : ℕ) (d : Point) → i < lead → place_of (slice_index_or points i d) ≢ place_of
      (slice_index_or points j d)

-- the first point at the place of each
pub record AreLeads (points : List Point) (leads : List ℕ) : Type 0 where
  pub size : length leads ≡ length points
  pub each : (j : ℕ) → j < length points → IsLead points j (slice_index_or leads j 0)

-- which points are the first at their place
abbrev pub first_marks : List ℕ → List Bool
first_marks leads = map (λ j. slice_index_or leads j 0 == j) (range_with_len 0 (length leads))
