use Rattle.std.proofs.Common.{◌≡◌, ◌++◌, false, take}
use Rattle.viz_sheet.specs.Arrays.{points_in}
use Rattle.viz_mesh_write.specs.Fits.{FitRows}
use Rattle.viz_mesh_write.specs.Steps.Passes.{point_rows}
use Rattle.viz_strip_write.proofs.points.put_points.Given as goal

-- the points so far
abbrev pub invariant-loop-rank : goal.invariant-loop-rank
invariant-loop-rank g l = record {
  written : l.text.items ≡ l.fn.text.items ++ point_rows g.N.PointNumbers.numbers false (take l.rank (points_in l.places));
  fits : FitRows g.N.PointNumbers.numbers (take l.rank (points_in l.places));
}
