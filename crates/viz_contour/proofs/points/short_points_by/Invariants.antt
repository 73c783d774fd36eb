use Rattle.std.proofs.Common.{◌≡◌, map, take}
use Rattle.viz_contour.specs.Steps.Ends.{IsSmallEnd}
use Rattle.viz_contour.specs.Steps.Named.{named_point, AreNarrowNames}
use Rattle.viz_contour.proofs.points.short_points_by.Given as goal

abbrev pub invariant-loop-name : goal.invariant-loop-name
invariant-loop-name l = record {
  low : IsSmallEnd l.level l.image l.low;
  made : l.points.items ≡ map (named_point l.level l.image) (take l.name-index l.names);
  narrow : AreNarrowNames l.level l.image (take l.name-index l.names);
}
