use Rattle.std.proofs.Common.{◌≡◌, ◌++◌}
use Rattle.viz_mesh_read.specs.Pieces.{pieces_up_to, kept, is_triangle, triangle_of}
use Rattle.viz_mesh_read.proofs.pieces.push_triangles.Given as goal

-- the triangles so far
abbrev pub invariant-loop-i : goal.invariant-loop-i
invariant-loop-i l = l.pieces.items ≡ l.fn.pieces.items ++ pieces_up_to (λ i. kept (is_triangle (triangle_of l.strip l.cell i)) (triangle_of l.strip l.cell i)) l.i
