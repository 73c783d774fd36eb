-- The numbers of points: x fastest, then y, then z (VTK User's Guide, the legacy format).
use Rattle.std.specs.Prelude.{◌≡◌, ℕ, ◌+◌, ◌-◌, ◌*◌}
use Rattle.viz_extent.specs.Extent.{Bounds, size_x, plane_size, count_of, IsExtent, Has}

-- the number of the point at i, j, k
abbrev pub index_at : Bounds → ℕ → ℕ → ℕ → ℕ
index_at b i j k = (i - b.x0) + (j - b.y0) * size_x b + (k - b.z0) * plane_size b

-- the point at the lowest corner has the number 0
abbrev pub BeginsAtLowestCorner : Type 0
BeginsAtLowestCorner = (b : Bounds) → index_at b b.x0 b.y0 b.z0 ≡ 0

-- the next point along x has the next number
abbrev pub StepsAlongX : Type 0
StepsAlongX =
    (b : Bounds) (i j k : ℕ) → Has b i j k
    → index_at b (i + 1) j k ≡ index_at b i j k + 1

-- the next point along y comes a row later
abbrev pub StepsAlongY : Type 0
StepsAlongY =
    (b : Bounds) (i j k : ℕ) → Has b i j k
    → index_at b i (j + 1) k ≡ index_at b i j k + size_x b

-- the next point along z comes a plane later
abbrev pub StepsAlongZ : Type 0
StepsAlongZ =
    (b : Bounds) (i j k : ℕ) → Has b i j k
    → index_at b i j (k + 1) ≡ index_at b i j k + plane_size b

-- after the last point of a row comes the first of the next row
abbrev pub RowsFollow : Type 0
RowsFollow =
    (b : Bounds) (j k : ℕ) → Has b b.x1 j k
    → index_at b b.x0 (j + 1) k ≡ index_at b b.x1 j k + 1

-- after the last point of a plane comes the first of the next plane
abbrev pub PlanesFollow : Type 0
PlanesFollow =
    (b : Bounds) (k : ℕ) → Has b b.x1 b.y1 k
    → index_at b b.x0 b.y0 (k + 1) ≡ index_at b b.x1 b.y1 k + 1

-- the point at the highest corner has the last number below the count
abbrev pub EndsAtHighestCorner : Type 0
EndsAtHighestCorner = (b : Bounds) → IsExtent b → index_at b b.x1 b.y1 b.z1 + 1 ≡ count_of b
