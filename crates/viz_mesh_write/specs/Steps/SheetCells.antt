-- The cells of sheets by ranks, without names and points.
use Rattle.std.specs.Prelude.{ℕ, ◌+◌, List, [], ◌∷◌, ◌++◌, length, map}
use Rattle.viz_sheet.specs.Sheet.{SheetData}
use Rattle.viz_sheet.specs.Ranked.{ranks_of}
use Rattle.viz_mesh_write.specs.Cells.{moved}

-- how many points a sheet has, and its cells by ranks
pub record CellsData : Type 0 where
  pub points : ℕ
  pub cells : List (List ℕ)

-- those of a sheet
abbrev pub cells_in : SheetData → CellsData
cells_in s = record { points = length s.points; cells = map (ranks_of s.names) s.cells }

-- how many points all sheets have
abbrev pub total_points : List CellsData → ℕ
total_points [] = 0
total_points (s ∷ sheets) = s.points + total_points sheets

-- the cells by the indices of their points, with so many points in front
abbrev pub indices_from : ℕ → List CellsData → List (List ℕ)
indices_from first [] = []
indices_from first (s ∷ sheets) = map (moved first) s.cells
    ++ indices_from (first + s.points) sheets

-- how many points all of these have, by what is seen of each
abbrev pub points_by : {X : Type 0} → (X → CellsData) → List X → ℕ
points_by seen sheets = total_points (map seen sheets)

-- the cells of all of these by the indices of their points
abbrev pub indices_by : {X : Type 0} → (X → CellsData) → List X → List (List ℕ)
indices_by seen sheets = indices_from 0 (map seen sheets)
