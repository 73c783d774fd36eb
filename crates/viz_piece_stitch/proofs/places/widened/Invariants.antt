use Rattle.std.proofs.Common.{◌≡◌, take}
use Rattle.viz_piece_stitch.proofs.places.widened.Given as goal

abbrev pub invariant-loop-point : goal.invariant-loop-point
invariant-loop-point l = l.wide.items ≡ take l.point-index l.points
