use Rattle.std.proofs.Common.{◌≡◌, ◌-◌, ◌++◌}
use Rattle.viz_mesh_read.specs.Pieces.{in_cells, lines_of}
use Rattle.viz_mesh_read.proofs.pieces.lines_in.Given as goal

-- the pieces so far, and those of the cells that are left, are all
abbrev pub invariant-loop : goal.invariant-loop
invariant-loop l = l.pieces.items ++ in_cells lines_of (l.count - l.counter) l.left ≡ l.fn.pieces.items ++ in_cells lines_of l.fn.count l.fn.numbers
