use Rattle.std.proofs.Common.{◌≤◌}
use Rattle.viz_clip.proofs.tets.inside_corners.Given as goal

abbrev pub invariant-loop-rank : goal.invariant-loop-rank
invariant-loop-rank l = l.count ≤ 4
