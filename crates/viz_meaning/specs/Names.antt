-- Names of the points of a section: pairs of names, the lesser one first, each once and ascending
-- (docs/FORMATS-OF-FILTERS.md, "Names of a section").
use Rattle.std.specs.Prelude.{ℕ, ◌/◌, Bool, List, [], ◌∷◌, ◌++◌, length, take, drop, if◌then◌else◌}
use Rattle.std.specs.List.{flat_map}
use Rattle.std.specs.Cmp.Lexicographic.{slice_cmp}
use Rattle.std.specs.Ordering.{nat_cmp, is_lt}

-- a name comes before another: leaf by leaf from the left
abbrev pub is_before : List ℕ → List ℕ → Bool
is_before m n = is_lt (slice_cmp nat_cmp m n)

-- the name of the edge between two names: the leaves of the lesser one, then those of the other
abbrev pub edge_name : List ℕ → List ℕ → List ℕ
edge_name m n = if is_before n m then n ++ m else m ++ n

-- the name of the lesser end of an edge
abbrev pub lesser_end : List ℕ → List ℕ
lesser_end n = take (length n / 2) n

-- the name of its greater end
abbrev pub greater_end : List ℕ → List ℕ
greater_end n = drop (length n / 2) n

-- a name among others that ascend, once
abbrev pub with_name : List ℕ → List (List ℕ) → List (List ℕ)
with_name n [] = n ∷ []
with_name n (m ∷ ms) = if is_before n m then n ∷ m ∷ ms else if is_before m n
    then m ∷ with_name n ms else m ∷ ms

-- the names, each once, ascending
abbrev pub each_once : List (List ℕ) → List (List ℕ)
each_once [] = []
each_once (n ∷ ns) = with_name n (each_once ns)

-- the names of all cells, each once, ascending
abbrev pub names_of : List (List (List ℕ)) → List (List ℕ)
names_of cells = each_once (flat_map (λ cell. cell) cells)
