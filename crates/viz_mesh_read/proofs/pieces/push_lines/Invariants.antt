use Rattle.std.proofs.Common.{◌≡◌, ◌++◌}
use Rattle.viz_mesh_read.specs.Pieces.{pieces_up_to, kept, is_segment, segment_of}
use Rattle.viz_mesh_read.proofs.pieces.push_lines.Given as goal

-- the segments so far
abbrev pub invariant-loop-i : goal.invariant-loop-i
invariant-loop-i l = l.pieces.items ≡ l.fn.pieces.items ++ pieces_up_to (λ i. kept (is_segment (segment_of l.cell i)) (segment_of l.cell i)) l.i
