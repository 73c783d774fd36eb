-- Kuhn's subdivision of a cube into six tetrahedra (Kuhn 1960; Doi and Koide 1991), row by row.
use Rattle.std.specs.Prelude.{◌≡◌, ◌≢◌, ℕ, ◌%◌, ◌<◌, ◌==◌, Bool, true, false, IsTrue}
use Rattle.std.specs.Prelude.{if◌then◌else◌, List, [], ◌∷◌, slice_index_or, All, AllPairs}
use Rattle.std.specs.Prelude.{Contains, IsPermutation}
use Rattle.viz_kuhn.specs.Corners.{Axis, along_x, along_y, along_z, Corner, corner, path_of}
use Rattle.viz_kuhn.specs.Corners.{exchanged, inversions, IsCorner, IsEdge}

-- a tetrahedron: the axes in the order of its path, whether that order is even, its corners
pub record Row : Type 0 where
  pub axes : List Axis
  pub even : Bool
  pub corners : List Corner

-- the row with these parts
abbrev pub row : List Axis → Bool → List Corner → Row
row axes even corners = record { axes = axes; even = even; corners = corners }

-- the six tetrahedra in the order of docs/FORMATS-OF-FILTERS.md, "Kuhn's subdivision"
unfoldable pub rows : List Row
rows =
    -- x y z
    row (along_x ∷ along_y ∷ along_z ∷ []) true
    (corner 0 0 0 ∷ corner 1 0 0 ∷ corner 1 1 0 ∷ corner 1 1 1 ∷ [])
    -- x z y
    ∷ row (along_x ∷ along_z ∷ along_y ∷ []) false
    (corner 0 0 0 ∷ corner 1 0 1 ∷ corner 1 0 0 ∷ corner 1 1 1 ∷ [])
    -- y x z
    ∷ row (along_y ∷ along_x ∷ along_z ∷ []) false
    (corner 0 0 0 ∷ corner 1 1 0 ∷ corner 0 1 0 ∷ corner 1 1 1 ∷ [])
    -- y z x
    ∷ row (along_y ∷ along_z ∷ along_x ∷ []) true
    (corner 0 0 0 ∷ corner 0 1 0 ∷ corner 0 1 1 ∷ corner 1 1 1 ∷ [])
    -- z x y
    ∷ row (along_z ∷ along_x ∷ along_y ∷ []) true
    (corner 0 0 0 ∷ corner 0 0 1 ∷ corner 1 0 1 ∷ corner 1 1 1 ∷ [])
    -- z y x
    ∷ row (along_z ∷ along_y ∷ along_x ∷ []) false
    (corner 0 0 0 ∷ corner 0 1 1 ∷ corner 0 0 1 ∷ corner 1 1 1 ∷ [])
    ∷ []

-- row p, and an empty one past the last
abbrev pub row_at : ℕ → Row
row_at p = slice_index_or rows p (row [] false [])

-- the axes in the order of tetrahedron p's path
abbrev pub axes_of : ℕ → List Axis
axes_of p = (row_at p).axes

-- the corners of tetrahedron p
abbrev pub corners_of : ℕ → List Corner
corners_of p = (row_at p).corners

-- row p says that its axes stand in an even order
abbrev pub IsEven : ℕ → Type 0
IsEven p = IsTrue (row_at p).even

-- each row has the three axes
abbrev pub HasThreeAxes : Type 0
HasThreeAxes =
    (p : ℕ) → p < 6 → IsPermutation (along_x ∷ along_y ∷ along_z ∷ []) (axes_of p)

-- no two rows have the axes in one order
abbrev pub OrdersDiffer : Type 0
OrdersDiffer = (p q : ℕ) → p < 6 → q < 6 → axes_of p ≡ axes_of q → p ≡ q

-- each order of the three axes is that of a row
abbrev pub HasEveryOrder : Type 0
HasEveryOrder =
    (a b c : Axis) → a ≢ b → a ≢ c → b ≢ c
    → (p : ℕ) × (p < 6) × (axes_of p ≡ a ∷ b ∷ c ∷ [])

-- a row is even exactly where an even number of pairs of its axes is exchanged
abbrev pub ParityIsOfOrder : Type 0
ParityIsOfOrder = (p : ℕ) → p < 6 → (row_at p).even ≡ (inversions (axes_of p) % 2 == 0)

-- each row's corners lie on its path, the middle ones exchanged where the order is odd
abbrev pub CornersFollowPath : Type 0
CornersFollowPath =
    (p : ℕ) → p < 6
    → corners_of p ≡ (if (row_at p).even then path_of (axes_of p)
    else exchanged (path_of (axes_of p)))

-- each tetrahedron has corners of the cube alone
abbrev pub OnlyCorners : Type 0
OnlyCorners = (p : ℕ) → p < 6 → All IsCorner (corners_of p)

-- each corner of the cube is one of a tetrahedron
abbrev pub EveryCorner : Type 0
EveryCorner =
    (c : Corner) → IsCorner c → (p : ℕ) × (p < 6) × Contains (corners_of p) c

-- each tetrahedron has the lowest and the highest corner
abbrev pub SharesDiagonal : Type 0
SharesDiagonal =
    (p : ℕ) → p < 6
    → Contains (corners_of p) (corner 0 0 0) × Contains (corners_of p) (corner 1 1 1)

-- every edge of a tetrahedron is a step between its corners
abbrev pub EdgesAreSteps : Type 0
EdgesAreSteps = (p : ℕ) → p < 6 → AllPairs IsEdge (corners_of p)
