-- Cells by leaves, without those that repeat one.
use Rattle.std.specs.Prelude.{◌≡◌, ℕ, List, map}
use Rattle.std.specs.List.{filter}
use Rattle.viz_fraction.specs.Points.{Point}
use Rattle.viz_sheet.specs.Sheet.{SheetData}
use Rattle.viz_sheet.specs.Ranked.{ranks_of}
use Rattle.viz_sheet.specs.Steps.Lookup.{looked_up}
use Rattle.viz_mesh_meaning.specs.Merge.{firsts, group_of, has_no_repeat}

-- the cells by the numbers at their ranks, without those that repeat a number
abbrev pub left_cells : List ℕ → List (List ℕ) → List (List ℕ)
left_cells numbers cells = filter has_no_repeat (map (looked_up numbers) cells)

-- the cells of a sheet by the numbers at the ranks of their names, without those that repeat a
-- number
abbrev pub left_by_names : List ℕ → SheetData → List (List ℕ)
left_by_names numbers s = left_cells numbers (map (ranks_of s.names) s.cells)

-- the number of each point is the rank of its group
pub record AreNumbers (points : List Point) (numbers : List ℕ) : Type 0 where
  pub each : numbers ≡ map (group_of (firsts points)) points
