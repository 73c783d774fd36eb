use Rattle.std.proofs.Common.{refl, sym, ap, ◌∙◌, rules}
use Rattle.std.specs.Int.{w64}
use Rattle.std.proofs.lemmas.Int.{to_z-of_z}
use Rattle.viz_fraction.specs.Points.{reduced}
use Rattle.viz_fraction.proofs.PointsLemmas.{same_point}
use Rattle.viz_dataset.specs.Images.{placed}
use Rattle.viz_contour.specs.Steps.Units.{billions_of}
use Rattle.viz_contour.proofs.UnitLemmas.{placed-units}
use Rattle.viz_contour.proofs.leaves.whole_point.Goals as goal

pub returns : goal.returns
returns c =
    let image = c.args.image.now in
    let units = c.args.units.now in
    let n = c.args.scalar.now in
    let x = to_z-of_z w64 c.coordinate-x.result (search rules) ∙ c.coordinate-x.ensures in
    let y = to_z-of_z w64 c.coordinate-y.result (search rules) ∙ c.coordinate-y.ensures in
    let z = to_z-of_z w64 c.coordinate-z.result (search rules) ∙ c.coordinate-z.ensures in
    c.point_in_units.ensures
    ∙ ap reduced (same_point _ _ x y z refl refl)
    ∙ placed-units units.origin units.spacing c.args.i c.args.j c.args.k n
    ∙ ap (λ v. placed v (billions_of units.spacing) c.args.i c.args.j c.args.k n) (sym c.requires.units.origin)
    ∙ ap (λ v. placed image.origin v c.args.i c.args.j c.args.k n) (sym c.requires.units.spacing)
