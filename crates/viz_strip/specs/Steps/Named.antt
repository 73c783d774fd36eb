-- Triangles by the ranks of their names.
use Rattle.std.specs.Prelude.{◌≡◌, ℕ, ◌<◌, List, length, map, slice_index, All}

-- the name of a rank
abbrev pub name_at : List ℕ → ℕ → ℕ
name_at names r = slice_index names r

-- the ranks of a triangle's names
pub record IsRankOf (names t ranks : List ℕ) : Type 0 where
  pub same : map (name_at names) ranks ≡ t
  pub below : All (λ r. r < length names) ranks

-- of the names of triangles
pub record AreRanksOf (names : List ℕ) (ts ranks : List (List ℕ)) : Type 0 where
  pub same : map (map (name_at names)) ranks ≡ ts
  pub below : All (All (λ r. r < length names)) ranks
