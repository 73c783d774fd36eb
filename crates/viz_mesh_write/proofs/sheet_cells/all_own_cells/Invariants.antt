use Rattle.std.proofs.Common.{◌≡◌, map}
use Rattle.viz_mesh_write.specs.Steps.SheetCells.{cells_in}
use Rattle.viz_mesh_write.proofs.sheet_cells.all_own_cells.Given as goal

-- the cells of the sheets so far
abbrev pub invariant-loop-sheet : goal.invariant-loop-sheet
invariant-loop-sheet l = l.cells.items ≡ map cells_in l.yielded
