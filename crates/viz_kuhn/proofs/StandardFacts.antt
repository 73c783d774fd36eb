-- The tables of the code against the rows, and cubes and tetrahedra counted and numbered by hand.
use Rattle.std.proofs.Common.{◌≡◌, [], ◌∷◌, refl}
use Rattle.std.specs.Prelude.{map, pos, negsuc}
use Rattle.viz_extent.specs.Extent.{Bounds, bounds_of}
use Rattle.viz_kuhn.specs.declared.tetrahedra.TheConstants.{CORNERS, EVEN}
use Rattle.viz_kuhn.specs.Corners.{along_x, along_y, along_z, corner_of, inversions}
use Rattle.viz_kuhn.specs.Kuhn.{Row, rows}
use Rattle.viz_kuhn.specs.Places.{place, sixths}
use Rattle.viz_kuhn.specs.Cubes.{cubes_of, all_lowest, tetrahedra_of, tet_at}

-- the code has the corners of the rows, in order
pub corners_match : map (map corner_of) CORNERS ≡ map (λ (r : Row). r.corners) rows
unfolding rows
corners_match = refl

-- and whether they are even
pub flags_match : EVEN ≡ map (λ (r : Row). r.even) rows
unfolding rows
flags_match = refl

-- three by three by two points from 5, 2, 7 on: two by two cubes in one layer
abbrev block : Bounds
block = bounds_of (5 ∷ 7 ∷ 2 ∷ 4 ∷ 7 ∷ 8 ∷ [])

all_cubes : cubes_of block ≡ 4
all_cubes = refl

cubes_in_order : all_lowest block ≡ place 5 2 7 ∷ place 6 2 7 ∷ place 5 3 7 ∷ place 6 3 7 ∷ []
cubes_in_order = refl

-- the first tetrahedron of the last cube, in rows of three points and planes of nine
along_x_y_z : tet_at block 3 0 ≡ 4 ∷ 5 ∷ 8 ∷ 17 ∷ []
unfolding rows
along_x_y_z = refl

-- the tetrahedra of a single cube between eight points
six_of_one : tetrahedra_of (bounds_of (0 ∷ 1 ∷ 0 ∷ 1 ∷ 0 ∷ 1 ∷ []))
    ≡ (0 ∷ 1 ∷ 3 ∷ 7 ∷ [])
    ∷ (0 ∷ 5 ∷ 1 ∷ 7 ∷ [])
    ∷ (0 ∷ 3 ∷ 2 ∷ 7 ∷ [])
    ∷ (0 ∷ 2 ∷ 6 ∷ 7 ∷ [])
    ∷ (0 ∷ 4 ∷ 5 ∷ 7 ∷ [])
    ∷ (0 ∷ 6 ∷ 4 ∷ 7 ∷ [])
    ∷ []
unfolding rows
six_of_one = refl

-- where an axis has one index there is no cube
no_cube : tetrahedra_of (bounds_of (0 ∷ 4 ∷ 3 ∷ 3 ∷ 0 ∷ 4 ∷ [])) ≡ []
no_cube = refl

-- a step along z from the plane of the steps along x and y is on the positive side
positive_side : sixths (place 0 0 0 ∷ place 1 0 0 ∷ place 0 1 0 ∷ place 0 0 1 ∷ []) ≡ pos 1
positive_side = refl

negative_side : sixths (place 0 0 0 ∷ place 0 1 0 ∷ place 1 0 0 ∷ place 0 0 1 ∷ []) ≡ negsuc 0
negative_side = refl

-- three exchanged pairs
all_exchanged : inversions (along_z ∷ along_y ∷ along_x ∷ []) ≡ 3
all_exchanged = refl
