use Rattle.std.proofs.Common.{◌≡◌, ◌++◌, ◌∷◌, []}
use Rattle.viz_mesh_read.specs.Pieces.{pieces_up_to, vertex_of}
use Rattle.viz_mesh_read.proofs.pieces.push_vertices.Given as goal

-- the vertices so far
abbrev pub invariant-loop-i : goal.invariant-loop-i
invariant-loop-i l = l.pieces.items ≡ l.fn.pieces.items ++ pieces_up_to (λ i. vertex_of l.cell i ∷ []) l.i
