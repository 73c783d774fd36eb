-- The corners of a tetrahedron by ranks, the inside ones first, as the code of a clip finds them.
use Rattle.std.specs.Prelude.{◌≡◌, ℕ, ◌≤◌, Bool, false, not, List, [], ◌∷◌, drop, map, max, min}
use Rattle.std.specs.Prelude.{slice_index_or, take}
use Rattle.std.specs.Ordering.{nat_cmp}
use Rattle.viz_sheet.specs.Kept.{kept}
use Rattle.viz_clip_meaning.specs.Order.{ascending}
use Rattle.viz_clip.specs.declared.corners.Corners.{Corners}

-- four flags, and four ranks, of a list of as many
abbrev pub four_flags : List Bool → List Bool
four_flags fs =
    slice_index_or fs 0 false ∷ slice_index_or fs 1 false ∷ slice_index_or fs 2 false
    ∷ slice_index_or fs 3 false ∷ []

abbrev pub four_ranks : List ℕ → List ℕ
four_ranks rs =
    slice_index_or rs 0 0 ∷ slice_index_or rs 1 0 ∷ slice_index_or rs 2 0
    ∷ slice_index_or rs 3 0 ∷ []

-- a number slid into a list: the lesser of it and each item stays, the greater goes on
abbrev pub slid : ℕ → List ℕ → List ℕ
slid x [] = x ∷ []
slid x (y ∷ ys) = min x y ∷ slid (max x y) ys

-- which of a cell's corners are inside, in the order of their ranks
abbrev pub flags_at : List Bool → List ℕ → List Bool
flags_at inside cell = map (λ r. slice_index_or inside r false) (ascending nat_cmp cell)

-- the ranks of its inside corners, and of the others, ascending
abbrev pub inside_of : List Bool → List ℕ → List ℕ
inside_of inside cell = kept (flags_at inside cell) (ascending nat_cmp cell)

abbrev pub outside_of : List Bool → List ℕ → List ℕ
outside_of inside cell = kept (map not (flags_at inside cell)) (ascending nat_cmp cell)

-- all four ranks of corners
abbrev pub corner_list : Corners → List ℕ
corner_list c = c.a ∷ c.b ∷ c.c ∷ c.d ∷ []

-- the inside ones, and the others
abbrev pub first_corners : Corners → List ℕ
first_corners c = take c.inside (corner_list c)

abbrev pub last_corners : Corners → List ℕ
last_corners c = drop c.inside (corner_list c)

-- they are the corners of a cell
pub record IsParted (inside : List Bool) (cell : List ℕ) (c : Corners) : Type 0 where
  pub first : first_corners c ≡ inside_of inside cell
  pub last : last_corners c ≡ outside_of inside cell
  pub most : c.inside ≤ 4
