use Rattle.viz_mesh_read.specs.Pieces.{kept, is_triangle, triangle_of}
use Rattle.viz_mesh_read.proofs.PieceLemmas.{pieces-on}
use Rattle.viz_mesh_read.proofs.pieces.push_triangles.Goals as goal

pub loop-i-preserved : goal.loop-i-preserved
loop-i-preserved c =
    pieces-on (λ i. kept (is_triangle (triangle_of c.args.strip c.args.cell.now i)) (triangle_of c.args.strip c.args.cell.now i)) c.args.pieces.now.items c.loop-i.pieces.items c.push_triangle.new.pieces.items c.loop-i.i c.loop-i.invariant (rw (← c.triangle.ensures) c.in_ok-push_triangle.ensures)
