-- Names of parts among all names, and where a walk over names that ascend stands.
use Rattle.std.specs.Prelude.{◌≡◌, ℕ, ◌<◌, ◌≤◌, ◌^◌, true, List, [], All, Contains, length}
use Rattle.std.specs.Prelude.{slice_index_or}
use Rattle.std.specs.Cmp.Lexicographic.{slice_cmp}
use Rattle.std.specs.Ordering.{nat_cmp, is_lt}
use Rattle.viz_sheet.specs.Ranked.{rank_of}
use Rattle.viz_sheet.specs.Sheet.{AreAscending}

-- each of the given names once, ascending, and no others
pub record AreUnited (given names : List (List ℕ)) : Type 0 where
  pub ascending : AreAscending names
  pub keeps : (n : List ℕ) → Contains given n → Contains names n
  pub adds_none : (n : List ℕ) → Contains names n → Contains given n
  pub fewer : length names ≤ length given

-- a part's names ascend as all names do, which have them and are few enough for ranks of 32 bits
pub record AreAmong (names part : List (List ℕ)) : Type 0 where
  pub ascending : AreAscending names
  pub few : length names ≤ 2 ^ 32
  pub rising : AreAscending part
  pub held : All (λ n. rank_of names n < length names) part

-- the first names, so many, come before one
abbrev pub ComeBefore : List (List ℕ) → ℕ → List ℕ → Type 0
ComeBefore names at n =
    (k : ℕ) → k < at → is_lt (slice_cmp nat_cmp (slice_index_or names k []) n) ≡ true

-- and before each of a part's names from an index on
abbrev pub PrecedeFrom : List (List ℕ) → ℕ → List (List ℕ) → ℕ → Type 0
PrecedeFrom names at part from =
    (j : ℕ) → from ≤ j → j < length part → ComeBefore names at (slice_index_or part j [])
