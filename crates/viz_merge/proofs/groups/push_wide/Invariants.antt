use Rattle.std.proofs.Common.{◌≡◌, ◌++◌, drop, take}
use Rattle.viz_sheet.specs.Arrays.{points_in}
use Rattle.viz_sheet.specs.Kept.{kept}
use Rattle.viz_merge.proofs.groups.push_wide.Given as goal

abbrev pub invariant-loop-rank : goal.invariant-loop-rank
invariant-loop-rank l = l.points.items ≡ l.initial.points.items ++ kept (take l.rank (drop l.at l.marks)) (take l.rank (points_in l.places))
