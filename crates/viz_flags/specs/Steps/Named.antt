-- The names of the edges from one leaf up: words of private contracts alone.
use Rattle.std.specs.Prelude.{ℕ, ◌+◌, List, [], ◌∷◌}

-- a name: a leaf, and the one so many behind it
abbrev pub name_up : ℕ → ℕ → List ℕ
name_up leaf step = leaf ∷ (leaf + step) ∷ []

-- the eight names up from a leaf, by direction
abbrev pub eight_names : ℕ → ℕ → ℕ → List (List ℕ)
eight_names leaf row plane =
    name_up leaf 1
    ∷ name_up leaf row
    ∷ name_up leaf (row + 1)
    ∷ name_up leaf plane
    ∷ name_up leaf (plane + 1)
    ∷ name_up leaf (plane + row)
    ∷ name_up leaf (plane + row + 1)
    ∷ name_up leaf (plane + row + 2)
    ∷ []
