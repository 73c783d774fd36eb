use Rattle.std.proofs.Common.{◌≡◌, ◌-◌, ◌++◌}
use Rattle.viz_mesh_read.specs.Pieces.{in_cells}
use Rattle.viz_file_mesh.specs.GridPieces.{grid_piece}
use Rattle.viz_file_mesh.proofs.grids.pieces_of_any_size.Given as goal

-- the pieces so far, and those of the cells that are left, are all
abbrev pub invariant-loop : goal.invariant-loop
invariant-loop l = l.pieces.items ++ in_cells grid_piece (l.count - l.counter) l.left ≡ in_cells grid_piece l.fn.count l.fn.numbers
