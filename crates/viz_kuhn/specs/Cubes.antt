-- The cubes between the points of an extent, and the tetrahedra of all (VTK User's Guide,
-- structured points).
use Rattle.std.specs.Prelude.{◌≡◌, ℕ, ◌+◌, ◌-◌, ◌*◌, ◌<◌, ◌≤◌, List, [], map, length}
use Rattle.std.specs.Prelude.{slice_index_or, flat_map}
use Rattle.std.specs.List.{range_with_len}
use Rattle.viz_extent.specs.Extent.{Bounds}
use Rattle.viz_extent.specs.Numbering.{index_at}
use Rattle.viz_kuhn.specs.Corners.{Corner}
use Rattle.viz_kuhn.specs.Kuhn.{Row, rows, corners_of}
use Rattle.viz_kuhn.specs.Places.{Place, place, place_of}

-- how many cubes lie in a row along x
abbrev pub cubes_x : Bounds → ℕ
cubes_x b = b.x1 - b.x0

-- how many cubes lie in a row along y
abbrev pub cubes_y : Bounds → ℕ
cubes_y b = b.y1 - b.y0

-- how many cubes lie in a row along z
abbrev pub cubes_z : Bounds → ℕ
cubes_z b = b.z1 - b.z0

-- how many cubes there are
abbrev pub cubes_of : Bounds → ℕ
cubes_of b = cubes_x b * cubes_y b * cubes_z b

-- an index lies on the axis from a lower bound to an upper one, and the next one too
pub record HasNext (lower upper index : ℕ) : Type 0 where
  pub at_least : lower ≤ index
  pub below : index < upper

-- the extent has a cube whose lowest corner lies at i, j, k
pub record HasCube (b : Bounds) (i j k : ℕ) : Type 0 where
  pub x : HasNext b.x0 b.x1 i
  pub y : HasNext b.y0 b.y1 j
  pub z : HasNext b.z0 b.z1 k

-- the number of the cube whose lowest corner lies at i, j, k
abbrev pub cube_at : Bounds → ℕ → ℕ → ℕ → ℕ
cube_at b i j k =
    (i - b.x0) + (j - b.y0) * cubes_x b + (k - b.z0) * (cubes_x b * cubes_y b)

-- the lowest corners of the cubes in a row along x
abbrev pub lowest_in_row : Bounds → ℕ → ℕ → List Place
lowest_in_row b j k = map (λ i. place i j k) (range_with_len b.x0 (cubes_x b))

-- the lowest corners of the cubes in a layer across z, row by row
abbrev pub lowest_in_layer : Bounds → ℕ → List Place
lowest_in_layer b k = flat_map (λ j. lowest_in_row b j k) (range_with_len b.y0 (cubes_y b))

-- the lowest corners of all cubes, layer by layer
abbrev pub all_lowest : Bounds → List Place
all_lowest b = flat_map (lowest_in_layer b) (range_with_len b.z0 (cubes_z b))

-- the lowest corner of a cube by its number, and a place of no cube past the last
abbrev pub lowest_of : Bounds → ℕ → Place
lowest_of b cube = slice_index_or (all_lowest b) cube (place b.x1 b.y1 b.z1)

-- the leaf at a place: the number of its point
abbrev pub leaf_of : Bounds → Place → ℕ
leaf_of b at = index_at b at.i at.j at.k

-- the leaves at corners of the cube whose lowest corner lies at a place
abbrev pub leaves_of : Bounds → Place → List Corner → List ℕ
leaves_of b lowest corners = map (λ c. leaf_of b (place_of lowest c)) corners

-- the leaves of tetrahedron p of a cube
abbrev pub tet_at : Bounds → ℕ → ℕ → List ℕ
tet_at b cube p = leaves_of b (lowest_of b cube) (corners_of p)

-- the six tetrahedra of the cube whose lowest corner lies at a place
abbrev pub six_at : Bounds → Place → List (List ℕ)
six_at b lowest = map (λ (r : Row). leaves_of b lowest r.corners) rows

-- the tetrahedra of all cubes
abbrev pub tetrahedra_of : Bounds → List (List ℕ)
tetrahedra_of b = flat_map (six_at b) (all_lowest b)

-- the list of lowest corners has all cubes
abbrev pub ListsEachCube : Type 0
ListsEachCube = (b : Bounds) → length (all_lowest b) ≡ cubes_of b

-- the list has each cube at its number, x fastest, then y, then z
abbrev pub NumbersXFastest : Type 0
NumbersXFastest =
    (b : Bounds) (i j k : ℕ) → HasCube b i j k
    → (cube_at b i j k < cubes_of b) × (lowest_of b (cube_at b i j k) ≡ place i j k)

-- a cube's number is that of its lowest corner
abbrev pub NumbersEachCube : Type 0
NumbersEachCube =
    (b : Bounds) (cube : ℕ) → cube < cubes_of b
    → let lowest = lowest_of b cube in
    HasCube b lowest.i lowest.j lowest.k × (cube_at b lowest.i lowest.j lowest.k ≡ cube)

-- the list of tetrahedra has six for each cube
abbrev pub ListsSixEach : Type 0
ListsSixEach = (b : Bounds) → length (tetrahedra_of b) ≡ 6 * cubes_of b

-- tetrahedron p of a cube has the number 6 * cube + p in the list
abbrev pub ListsInOrder : Type 0
ListsInOrder =
    (b : Bounds) (cube p : ℕ) → cube < cubes_of b → p < 6
    → slice_index_or (tetrahedra_of b) (6 * cube + p) [] ≡ tet_at b cube p
