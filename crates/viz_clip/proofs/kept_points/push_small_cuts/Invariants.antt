use Rattle.std.proofs.Common.{◌≡◌, ◌++◌, map, take}
use Rattle.std.specs.List.{All}
use Rattle.viz_sheet.specs.Arrays.{points_in}
use Rattle.viz_clip.specs.Steps.Cuts.{IsNarrowCut, cut_point}
use Rattle.viz_clip.proofs.kept_points.push_small_cuts.Given as goal

abbrev pub invariant-loop-key : goal.invariant-loop-key
invariant-loop-key l = record {
  made : l.points.items ≡ l.fn.points.items ++ map (cut_point l.values (points_in l.places)) (take l.key-index l.keys);
  narrow : All (IsNarrowCut l.values (points_in l.places)) (take l.key-index l.keys);
}
