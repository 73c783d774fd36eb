use Rattle.std.proofs.Common.{◌≡◌, map, take}
use Rattle.viz_contour.specs.Steps.Ends.{IsEnd}
use Rattle.viz_contour.specs.Steps.Named.{named_point, AreNarrowNames}
use Rattle.viz_contour.proofs.points.small_points.Given as goal

abbrev pub invariant-loop-name : goal.invariant-loop-name
invariant-loop-name l = record {
  low : IsEnd l.level l.image l.low;
  made : l.points.items ≡ map (named_point l.level l.image) (take l.name-index l.names);
  narrow : AreNarrowNames l.level l.image (take l.name-index l.names);
}
