-- An edge between two ranks as one number of 64 bits.
use Rattle.std.specs.Prelude.{ℕ, ◌+◌, ◌*◌, ◌/◌, ◌%◌, ◌^◌, ◌<◌, min, max, List, [], ◌∷◌}
use Rattle.viz_sheet.specs.PairNames.{pair_name}

-- the lesser rank above the greater one's 32 bits
abbrev pub key_of : ℕ → ℕ → ℕ
key_of a b = min a b * 2 ^ 32 + max a b

-- the lesser rank of a key
abbrev pub low_of : ℕ → ℕ
low_of key = key / 2 ^ 32

-- the greater rank of a key
abbrev pub high_of : ℕ → ℕ
high_of key = key % 2 ^ 32

-- both ranks
abbrev pub pair_of : ℕ → List ℕ
pair_of key = low_of key ∷ high_of key ∷ []

-- the ranks of a key are different and below the number of names
pub record IsEdgeKey (count : ℕ) (key : ℕ) : Type 0 where
  pub rises : low_of key < high_of key
  pub below : high_of key < count

-- the name of a key: the leaves of both names
unfoldable pub key_name : List (List ℕ) → ℕ → List ℕ
key_name names key = pair_name names (pair_of key)
