-- The mesh of a file: its points, in a unit, and its pieces (docs/FORMATS-OF-FILES.md, "Grids and
-- polydata").
use Rattle.std.specs.Prelude.{◌≡◌, ℕ, ℤ, pos, ◌+◌, ◌*◌, ◌^◌, ◌<◌, ◌*ℤ◌, List, [], ◌∷◌, length, map}
use Rattle.std.specs.Prelude.{slice_index_or, Option, Some, None, IfSome}
use Rattle.std.specs.List.{range_with_len}
use Rattle.viz_column.specs.Numbers.{Numbers}
use Rattle.viz_fraction.specs.Points.{Point, numbers, reduced}
use Rattle.viz_mesh_read.specs.declared.coordinates.FilePoints.{FilePoints}
use Rattle.viz_sheet.specs.Kept.{sheet_with}
use Rattle.viz_sheet.specs.Ranked.{leaf_names}
use Rattle.viz_sheet.specs.Sheet.{SheetData}

-- the number at a place
abbrev pub number_at : Numbers → ℕ → ℤ
number_at numbers i = slice_index_or numbers.items i (pos 0)

-- the scalar of a point: its number in the picked array, or 0 where none is picked
abbrev pub scalar_at : Option Numbers → ℕ → ℤ
scalar_at None i = pos 0
scalar_at (Some picked) i = number_at picked i

-- the point of an index, in lowest terms: a whole coordinate n stands for n by 10^unit
abbrev pub file_point : ℕ → FilePoints → Option Numbers → ℕ → Point
file_point unit points picked i =
    reduced (numbers (number_at points.coordinates (3 * i))
    (number_at points.coordinates (3 * i + 1)) (number_at points.coordinates (3 * i + 2))
    (scalar_at picked i *ℤ pos (10 ^ unit)) (pos (10 ^ unit)))

-- all points of a file
abbrev pub file_points : ℕ → FilePoints → Option Numbers → List Point
file_points unit points picked = map (file_point unit points picked) (range_with_len 0 points.count)

-- the mesh of a file: one sheet, whose leaves are the indices of points; points that no piece has
-- are dropped
abbrev pub mesh_of : ℕ → FilePoints → Option Numbers → List (List ℕ) → List SheetData
mesh_of unit points picked pieces =
    sheet_with (leaf_names points.count) (file_points unit points picked) pieces ∷ []

-- points as a file has them: three coordinates of each, a scalar of each where they are picked,
-- and fewer than 2^31
pub record ArePoints (points : FilePoints) (picked : Option Numbers) : Type 0 where
  pub coordinates : length points.coordinates.items ≡ 3 * points.count
  pub scalars : IfSome picked (λ n. length n.items ≡ points.count)
  pub few : points.count < 2 ^ 31
