-- The cells of a section in BINARY by their bytes, which proofs compare with the readers
-- (docs/FORMATS-OF-FILES.md, "Grids and polydata").
use Rattle.std.specs.Prelude.{◌≡◌, ◌≤◌, ◌<◌, ◌*◌, ℕ, pos, true, List, [], ◌∷◌, length, drop, Ok}
use Rattle.viz_column.specs.declared.kind.Kind8.TheVariants.{I32}
use Rattle.viz_column.specs.Bytes.{number_in}
use Rattle.viz_lex.specs.Reading.{Reading, rest_of, advanced}
use Rattle.viz_counted_cells.specs.Steps.{cells_at}

-- a number of 32 bits stands in front of the bytes
pub record StartsWith (n : ℕ) (bytes : List ℕ) : Type 0 where
  pub room : 4 ≤ length bytes
  pub number : number_in I32 bytes ≡ pos n

-- the index of a point stands in front of the bytes
pub record IsIndexIn (points i : ℕ) (bytes : List ℕ) : Type 0 where
  pub starts : StartsWith i bytes
  pub below : i < points

-- indices of points stand in front of the bytes, one after the other
abbrev pub AreIndicesIn : ℕ → List ℕ → List ℕ → Type 0
AreIndicesIn points [] bytes = Unit {0}
AreIndicesIn points (i ∷ indices) bytes =
    IsIndexIn points i bytes × AreIndicesIn points indices (drop 4 bytes)

-- a cell stands in front of the bytes: its count, and so many indices of points
pub record IsCellIn (points : ℕ) (indices bytes : List ℕ) : Type 0 where
  pub counted : StartsWith (length indices) bytes
  pub each : AreIndicesIn points indices (drop 4 bytes)

-- cells of these numbers are next, so many with so many numbers in all
pub record AreCellsNext (points size count : ℕ) (numbers : List ℕ) (r : Reading) : Type 0 where
  pub read : cells_at true points size count [] r ≡ Ok (numbers, advanced r (4 * size))
  pub room : 4 * size ≤ length (rest_of r)
