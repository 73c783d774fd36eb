use Rattle.std.proofs.Common.{◌≡◌, pos, slice_index_or, refl, sym, ap, subst, ◌∙◌, rules}
use Rattle.std.specs.Int.{w64}
use Rattle.std.proofs.lemmas.Int.{to_z-of_z}
use Rattle.viz_extent.specs.Numbering.{index_at}
use Rattle.viz_fraction.specs.Points.{reduced}
use Rattle.viz_fraction.proofs.PointsLemmas.{same_point, reduced-lowest}
use Rattle.viz_dataset.specs.Images.{placed}
use Rattle.viz_grid_section.proofs.LeafLemmas.{point-leaf}
use Rattle.viz_contour.specs.Steps.Units.{billions_of}
use Rattle.viz_contour.proofs.UnitLemmas.{placed-units}
use Rattle.viz_contour.proofs.leaves.small_leaf_point.Goals as goal

pub returns-clause-value : goal.returns-clause-value
returns-clause-value c =
    let image = c.args.image.now in
    let units = c.args.units.now in
    let n = c.args.scalar.now in
    let items = image.values.items in
    let i = c.place_of-i.result.0 in
    let j = c.place_of-i.result.1 in
    let k = c.place_of-i.result.2 in
    let x = to_z-of_z w64 c.coordinate-x.result (search rules) ∙ c.coordinate-x.ensures in
    let y = to_z-of_z w64 c.coordinate-y.result (search rules) ∙ c.coordinate-y.ensures in
    let z = to_z-of_z w64 c.coordinate-z.result (search rules) ∙ c.coordinate-z.ensures in
    let extent = c.extent-extent.ensures.value in
    let at = c.place_of-i.ensures.number ∙ c.from.ensures in
    let number : index_at image.extent i j k ≡ c.args.leaf = subst (λ e. index_at e i j k ≡ c.args.leaf) extent at in
    sym (reduced-lowest _ c.whole.ensures.valid.lowest)
    ∙ ap reduced (c.whole.ensures.value ∙ same_point _ _ x y z (to_z-of_z w64 n (search rules)) refl)
    ∙ placed-units units.origin units.spacing i j k n
    ∙ ap (λ v. placed v (billions_of units.spacing) i j k n) (sym c.requires.units.origin)
    ∙ ap (λ v. placed image.origin v i j k n) (sym c.requires.units.spacing)
    ∙ ap (λ m. placed image.origin image.spacing i j k m) c.requires.scalar
    ∙ ap (λ m. placed image.origin image.spacing i j k (slice_index_or items m (pos 0))) (sym number)
    ∙ point-leaf image c.extent-extent.result i j k c.args.leaf extent c.place_of-i.ensures.has at
