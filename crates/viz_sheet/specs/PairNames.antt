-- Names of the next level: pairs of names, as an edge is named by its ends (Doi and Koide 1991).
use Rattle.std.specs.Prelude.{◌≡◌, ℕ, ◌<◌, List, [], ◌++◌, length, map, All, slice_index_or}
use Rattle.std.specs.List.Sorted.{IsStrictlySortedBy}
use Rattle.std.specs.Cmp.Lexicographic.{slice_cmp}
use Rattle.std.specs.Ordering.{nat_cmp}
use Rattle.viz_sheet.specs.Sheet.{AreAscending}

-- names of one level: they ascend, and all have so many leaves
pub record AreNames (size : ℕ) (names : List (List ℕ)) : Type 0 where
  pub sized : All (λ n. length n ≡ size) names
  pub ascending : AreAscending names

-- a pair of ranks: the lesser first, both below the number of names
pub record IsPair (count : ℕ) (pair : List ℕ) : Type 0 where
  pub two : length pair ≡ 2
  pub rises : slice_index_or pair 0 0 < slice_index_or pair 1 0
  pub below : slice_index_or pair 1 0 < count

-- the name of a pair of ranks: the leaves of the first, then those of the second
abbrev pub pair_name : List (List ℕ) → List ℕ → List ℕ
pair_name names pair =
    slice_index_or names (slice_index_or pair 0 0) []
    ++ slice_index_or names (slice_index_or pair 1 0) []

-- two pairs of ranks compare as the names that they make
abbrev pub PairsCompareAsNames : Type 0
PairsCompareAsNames =
    (size : ℕ) (names : List (List ℕ)) (p q : List ℕ) → AreNames size names
    → IsPair (length names) p → IsPair (length names) q
    → slice_cmp nat_cmp (pair_name names p) (pair_name names q) ≡ slice_cmp nat_cmp p q

-- names of pairs that ascend ascend
abbrev pub PairsAscendAsNames : Type 0
PairsAscendAsNames =
    (size : ℕ) (names : List (List ℕ)) (pairs : List (List ℕ)) → AreNames size names
    → All (IsPair (length names)) pairs
    → IsStrictlySortedBy (slice_cmp nat_cmp) pairs → AreAscending (map (pair_name names) pairs)
