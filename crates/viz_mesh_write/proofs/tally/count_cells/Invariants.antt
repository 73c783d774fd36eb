use Rattle.std.proofs.Common.{◌≡◌, ◌≤◌, ◌==◌, length, take}
use Rattle.std.specs.List.{filter}
use Rattle.viz_mesh_write.proofs.tally.count_cells.Given as goal

-- the cells so far
abbrev pub invariant-loop-cell : goal.invariant-loop-cell
invariant-loop-cell g l = record {
  value : l.count ≡ length (filter (λ cell. length (g.C.CellRanks.list cell) == l.size) (take l.cell-index l.cells));
  most : l.count ≤ l.cell-index;
}
