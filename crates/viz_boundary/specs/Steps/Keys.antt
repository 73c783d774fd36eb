-- Facets by ranks as numbers: a number for the set of its ranks, and behind it where the facet
-- stands.
use Rattle.std.specs.Prelude.{ℕ, ◌+◌, ◌*◌, ◌^◌, nat_lt, List, [], ◌∷◌, if◌then◌else◌}

-- a rank put in front of the first greater one
abbrev pub put : ℕ → List ℕ → List ℕ
put r [] = r ∷ []
put r (s ∷ ss) = if nat_lt r s then r ∷ s ∷ ss else s ∷ put r ss

-- ranks in ascending order
abbrev pub in_order : List ℕ → List ℕ
in_order [] = []
in_order (r ∷ rs) = put r (in_order rs)

-- three ranks as one number of 96 bits
abbrev pub packed : ℕ → ℕ → ℕ → ℕ
packed a b c = (a * 2 ^ 32 + b) * 2 ^ 32 + c

-- one to three ranks as one number: the first stands again for each that is missing
abbrev pub filled : List ℕ → ℕ
filled [] = 0
filled (a ∷ []) = packed a a a
filled (a ∷ b ∷ []) = packed a a b
filled (a ∷ b ∷ c ∷ rest) = packed a b c

-- the number of the set of a facet's ranks
unfoldable pub set_key : List ℕ → ℕ
set_key facet = filled (in_order facet)

-- that number, and behind it the facet's index
abbrev pub keyed : ℕ → List ℕ → ℕ
keyed at facet = set_key facet * 2 ^ 32 + at

-- the same of facets in turn, with indices from one on
abbrev pub keyed_from : ℕ → List (List ℕ) → List ℕ
keyed_from at [] = []
keyed_from at (x ∷ xs) = keyed at x ∷ keyed_from (at + 1) xs
