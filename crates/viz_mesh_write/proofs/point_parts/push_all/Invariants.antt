use Rattle.std.proofs.Common.{◌≡◌, ◌*◌, ◌++◌, take, length}
use Rattle.viz_workers.specs.Level.{AreItems}
use Rattle.viz_mesh_write.specs.Steps.Parts.{IsPointPart}
use Rattle.viz_mesh_write.specs.Steps.Passes.{rows_by, FitBy}
use Rattle.viz_mesh_write.proofs.point_parts.push_all.Given as goal

-- the rows of the parts so far; those that are left are as they were
abbrev pub invariant-loop-part : goal.invariant-loop-part
invariant-loop-part g l = record {
  written : l.text ≡ l.fn.text ++ rows_by g.P.WidePoint.point (g.N.PointNumbers.numbers l.what)
      l.binary (take (l.part * 16384) l.points);
  fits : FitBy g.P.WidePoint.point (g.N.PointNumbers.numbers l.what) (take (l.part * 16384) l.points);
  parts : AreItems (IsPointPart g.P.WidePoint.point (g.N.PointNumbers.numbers l.what) l.binary
      l.points) 0 l.parts;
  len : length l.parts ≡ length l.initial.parts;
}
