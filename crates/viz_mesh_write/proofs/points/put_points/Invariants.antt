use Rattle.std.proofs.Common.{◌≡◌, ◌++◌, take}
use Rattle.viz_mesh_write.specs.Cells.{points_of}
use Rattle.viz_mesh_write.specs.Fits.{FitRows}
use Rattle.viz_mesh_write.specs.Steps.Kinds.{numbers_by}
use Rattle.viz_mesh_write.specs.Steps.Passes.{point_rows}
use Rattle.viz_mesh_write.proofs.points.put_points.Given as goal

-- the sheets so far
abbrev pub invariant-loop-sheet : goal.invariant-loop-sheet
invariant-loop-sheet g l = record {
  written : g.T.Target.text l.text ≡ g.T.Target.text l.fn.text ++ point_rows (numbers_by l.what) l.binary (points_of (take l.sheet-index l.sheets));
  fits : FitRows (numbers_by l.what) (points_of (take l.sheet-index l.sheets));
}
