-- Buckets that share out a list by what is left of each item's number. Only private contracts and
-- proofs speak of it.
use Rattle.std.specs.Prelude.{◌≡◌, ℕ, ◌<◌, ◌%◌, nat_eq, List, length, slice_get, Some}
use Rattle.std.specs.List.{filter}

-- the items of one bucket of so many
abbrev pub in_bucket : {T : Type 0} → (T → ℕ) → ℕ → ℕ → List T → List T
in_bucket number count j all = filter (λ x. nat_eq (number x % count) j) all

-- each has its own, in order; there is one at least
pub record AreBuckets {T V : Type 0} (number : T → ℕ) (items : V → List T) (all : List T)
    (buckets : List V) : Type 0 where
  pub some : 0 < length buckets
  pub each : (j : ℕ) (b : V) → slice_get buckets j ≡ Some b
      → items b ≡ in_bucket number (length buckets) j all
