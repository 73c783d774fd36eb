-- Points counted and numbered by hand.
use Rattle.std.proofs.Common.{◌≡◌, [], ◌∷◌, refl}
use Rattle.viz_extent.specs.Extent.{Bounds, bounds_of, numbers_of, size_x, size_y, size_z, count_of}
use Rattle.viz_extent.specs.Numbering.{index_at}

-- three by two by four points
abbrev block : Bounds
block = bounds_of (1 ∷ 3 ∷ 5 ∷ 6 ∷ 2 ∷ 5 ∷ [])

order_of_numbers : numbers_of block ≡ 1 ∷ 3 ∷ 5 ∷ 6 ∷ 2 ∷ 5 ∷ []
order_of_numbers = refl

row_along_x : size_x block ≡ 3
row_along_x = refl

row_along_y : size_y block ≡ 2
row_along_y = refl

row_along_z : size_z block ≡ 4
row_along_z = refl

all_points : count_of block ≡ 24
all_points = refl

lowest_corner : index_at block 1 5 2 ≡ 0
lowest_corner = refl

next_along_x : index_at block 2 5 2 ≡ 1
next_along_x = refl

next_along_y : index_at block 1 6 2 ≡ 3
next_along_y = refl

next_along_z : index_at block 1 5 3 ≡ 6
next_along_z = refl

highest_corner : index_at block 3 6 5 ≡ 23
highest_corner = refl

-- as many points as an extent may have
longest_row : count_of (bounds_of (0 ∷ 2147483646 ∷ 0 ∷ 0 ∷ 0 ∷ 0 ∷ [])) ≡ 2147483647
longest_row = refl
