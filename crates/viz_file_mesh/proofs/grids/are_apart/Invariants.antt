use Rattle.std.proofs.Common.{◌≡◌, true, take}
use Rattle.std.specs.List.{list_all}
use Rattle.viz_file_mesh.specs.GridPieces.{repeats_none}
use Rattle.viz_file_mesh.proofs.grids.are_apart.Given as goal

-- the cells so far repeat no index
abbrev pub invariant-loop-cell : goal.invariant-loop-cell
invariant-loop-cell g l = list_all (λ c. repeats_none (g.C.CellIndices.list c)) (take l.cell-index l.cells) ≡ true
