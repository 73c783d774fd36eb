-- Triangles that are taken, by marks.
use Rattle.std.specs.Prelude.{ℕ, Bool, false, not, List, [], ◌∷◌, count_by}
use Rattle.std.specs.Prelude.{slice_index_or, if◌then◌else◌}

-- whether a triangle is taken
abbrev pub is_taken : List Bool → ℕ → Bool
is_taken marks i = slice_index_or marks i false

-- the triangles that aren't taken, in order
abbrev pub left : List Bool → List (List ℕ) → List (List ℕ)
left [] ts = []
left (m ∷ ms) [] = []
left (m ∷ ms) (t ∷ ts) = if m then left ms ts else t ∷ left ms ts

-- how many aren't taken
abbrev pub left_count : List Bool → ℕ
left_count marks = count_by not marks
