use Rattle.std.proofs.Common.{◌≡◌, ◌++◌, length}
use Rattle.viz_mesh_write.specs.Steps.Passes.{rows_by, FitBy}
use Rattle.viz_mesh_write.proofs.points.put_width.Given as goal

-- the points so far, and those to come
abbrev pub invariant-loop-left : goal.invariant-loop-left
invariant-loop-left g l = record {
  written : l.text.items
      ++ rows_by g.P.WidePoint.point (g.N.PointNumbers.numbers l.what) l.binary l.left
      ≡ l.fn.text.items
      ++ rows_by g.P.WidePoint.point (g.N.PointNumbers.numbers l.what) l.binary l.points;
  whole : FitBy g.P.WidePoint.point (g.N.PointNumbers.numbers l.what) l.left
      → FitBy g.P.WidePoint.point (g.N.PointNumbers.numbers l.what) l.points;
  rest : FitBy g.P.WidePoint.point (g.N.PointNumbers.numbers l.what) l.points
      → FitBy g.P.WidePoint.point (g.N.PointNumbers.numbers l.what) l.left;
}

abbrev pub decreases-loop-left : goal.decreases-loop-left
decreases-loop-left g l = length l.left
