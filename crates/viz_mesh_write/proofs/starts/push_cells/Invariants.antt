use Rattle.std.proofs.Common.{◌≡◌, ◌+◌, ◌++◌, drop}
use Rattle.viz_mesh_write.specs.Steps.Starts.{count_by, starts_by}
use Rattle.viz_mesh_write.proofs.starts.push_cells.Given as goal

-- the cells so far, and those to come
abbrev pub invariant-loop-cell : goal.invariant-loop-cell
invariant-loop-cell g l = record {
  put : l.starts.items ++ starts_by g.C.CellRanks.list l.size l.next (drop l.cell-index l.cells)
      ≡ l.fn.starts.items ++ starts_by g.C.CellRanks.list l.size l.front l.cells;
  next : l.next + count_by g.C.CellRanks.list l.size (drop l.cell-index l.cells)
      ≡ l.front + count_by g.C.CellRanks.list l.size l.cells;
}
