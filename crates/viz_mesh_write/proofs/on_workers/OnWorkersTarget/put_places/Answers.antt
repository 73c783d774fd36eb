use Rattle.std.proofs.Common.{◌≡◌, sym, subst, rules}
use Rattle.std.specs.Prelude.{OnOk}
use Rattle.viz_sheet.specs.Arrays.{points_in}
use Rattle.viz_mesh_write.specs.declared.point_rows.OfPoints.{OfPoints}
use Rattle.viz_mesh_write.specs.declared.point_rows.OfPoints.TheVariants.{Coordinates, Scalar}
use Rattle.viz_mesh_write.specs.Fits.{FitRows}
use Rattle.viz_mesh_write.specs.Steps.Kinds.{numbers_by}
use Rattle.viz_mesh_write.proofs.on_workers.OnWorkersTarget.put_places.Goals as goal

pub returns-in-Coordinates-clause-fits : goal.returns-in-Coordinates-clause-fits
returns-in-Coordinates-clause-fits g c =
    let is : c.args.what.now ≡ Coordinates c.in-Coordinates.what = search rules in
    subst (λ (w : OfPoints). OnOk c.put_place_parts.result
    (FitRows (numbers_by w) (points_in c.args.places.now))) (sym is) c.put_place_parts.ensures.fits

pub returns-in-Scalar-clause-fits : goal.returns-in-Scalar-clause-fits
returns-in-Scalar-clause-fits g c =
    let is : c.args.what.now ≡ Scalar c.in-Scalar.what = search rules in
    subst (λ (w : OfPoints). OnOk c.put_place_parts-in-Scalar.result
    (FitRows (numbers_by w) (points_in c.args.places.now))) (sym is)
    c.put_place_parts-in-Scalar.ensures.fits
