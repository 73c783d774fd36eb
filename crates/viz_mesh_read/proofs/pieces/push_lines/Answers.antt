use Rattle.std.proofs.Common.{◌++◌, ◌∙◌, ap, ℕ, List}
use Rattle.viz_mesh_read.specs.Pieces.{kept, is_segment, segment_of}
use Rattle.viz_mesh_read.proofs.PieceLemmas.{pieces-on}
use Rattle.viz_mesh_read.proofs.pieces.push_lines.Goals as goal

pub loop-i-preserved : goal.loop-i-preserved
loop-i-preserved c =
    pieces-on (λ i. kept (is_segment (segment_of c.args.cell.now i)) (segment_of c.args.cell.now i)) c.args.pieces.now.items c.loop-i.pieces.items c.push_line.new.pieces.items c.loop-i.i c.loop-i.invariant (c.in_ok-push_line.ensures ∙ ap (λ (p : List ℕ). c.loop-i.pieces.items ++ kept (is_segment p) p) c.segment.ensures)
