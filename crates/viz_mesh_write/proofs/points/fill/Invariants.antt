use Rattle.std.proofs.Common.{◌≡◌, ◌≤◌, ◌*◌, ◌+◌, ◌-◌, length, drop}
use Rattle.viz_mesh_write.specs.Steps.Passes.{rows_by, FitBy}
use Rattle.viz_mesh_write.proofs.points.fill.Given as goal

-- the rows of the last points stand at the end
abbrev pub invariant-loop-k : goal.invariant-loop-k
invariant-loop-k g l = record {
  written : drop l.end l.block
      ≡ rows_by g.P.WidePoint.point (g.N.PointNumbers.numbers l.what) l.binary
      (drop (length l.points - l.k) l.points);
  fits : FitBy g.P.WidePoint.point (g.N.PointNumbers.numbers l.what)
      (drop (length l.points - l.k) l.points);
  len : length l.block ≡ 65536;
  at : l.end ≤ 65536;
  room : 65536 ≤ l.end + 128 * l.k;
}
