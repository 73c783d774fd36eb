use Rattle.std.proofs.Common.{◌≡◌}
use Rattle.viz_piece_stitch.proofs.stitching.shared.Given as goal

abbrev pub invariant-loop-part : goal.invariant-loop-part
invariant-loop-part l = l.all.items ≡ l.yielded
