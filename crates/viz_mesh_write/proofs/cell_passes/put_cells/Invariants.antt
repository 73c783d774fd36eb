use Rattle.std.proofs.Common.{◌≡◌, ◌++◌, length}
use Rattle.std.specs.List.{All, flat_map}
use Rattle.viz_mesh_write.specs.Steps.Passes.{IsMovable}
use Rattle.viz_mesh_write.proofs.cell_passes.put_cells.Given as goal

-- the cells so far, and those to come
abbrev pub invariant-loop-left : goal.invariant-loop-left
invariant-loop-left g l = record {
  written : l.text.items
      ++ flat_map (λ cell. g.R.CellRow.written l.what l.binary l.first (g.C.CellRanks.list cell)) l.left
      ≡ l.fn.text.items
      ++ flat_map (λ cell. g.R.CellRow.written l.what l.binary l.first (g.C.CellRanks.list cell)) l.cells;
  movable : All (λ cell. IsMovable l.first (g.C.CellRanks.list cell)) l.left;
}

abbrev pub decreases-loop-left : goal.decreases-loop-left
decreases-loop-left g l = length l.left
