use Rattle.std.proofs.Common.{◌≡◌, ◌++◌, map, take}
use Rattle.viz_file_mesh.proofs.polys.put_cells.Given as goal

-- the cells so far
abbrev pub invariant-loop-cell : goal.invariant-loop-cell
invariant-loop-cell g l = l.pieces.items ≡ l.initial.pieces.items ++ map g.C.CellIndices.list (take l.cell-index l.cells)
