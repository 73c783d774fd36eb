use Rattle.std.proofs.Common.{◌≡◌, ◌++◌, map, take}
use Rattle.viz_sheet.specs.Arrays.{points_in}
use Rattle.viz_cells.specs.Steps.Crossings.{point_at}
use Rattle.viz_clip.proofs.kept_points.push_small_corners.Given as goal

abbrev pub invariant-loop-rank : goal.invariant-loop-rank
invariant-loop-rank l = l.points.items ≡ l.fn.points.items ++ map (point_at (points_in l.places)) (take l.rank-index l.corners)
