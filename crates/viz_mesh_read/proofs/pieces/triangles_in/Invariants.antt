use Rattle.std.proofs.Common.{◌≡◌, ◌-◌, ◌++◌}
use Rattle.viz_mesh_read.specs.Pieces.{in_cells, triangles_of}
use Rattle.viz_mesh_read.proofs.pieces.triangles_in.Given as goal

-- the pieces so far, and those of the cells that are left, are all
abbrev pub invariant-loop : goal.invariant-loop
invariant-loop l = l.pieces.items ++ in_cells (triangles_of l.strip) (l.count - l.counter) l.left ≡ l.fn.pieces.items ++ in_cells (triangles_of l.fn.strip) l.fn.count l.fn.numbers
