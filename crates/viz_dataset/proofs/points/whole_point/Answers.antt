use Rattle.std.proofs.Common.{◌≡◌, pos, refl, ap, ◌∙◌, rules, arith}
use Rattle.std.proofs.lemmas.Int.{ints}
use Rattle.viz_fraction.specs.Points.{reduced}
use Rattle.viz_fraction.proofs.FieldsLemmas.{numbers-kept}
use Rattle.viz_fraction.proofs.PointsLemmas.{same_point}
use Rattle.viz_dataset.proofs.PlaceLemmas.{reduced-units}
use Rattle.viz_dataset.proofs.points.whole_point.Goals as goal

pub returns : goal.returns
returns c =
    let x = c.args.x.now in
    let y = c.args.y.now in
    let z = c.args.z.now in
    let s = c.args.scalar.now in
    let is_x : c.from.result ≡ x = omega (arith, ints) in
    let is_y : c.from-2.result ≡ y = omega (arith, ints) in
    let is_z : c.from-3.result ≡ z = omega (arith, ints) in
    c.in-Ok.ensures.value
    ∙ ap reduced (numbers-kept c.from.result c.from-2.result c.from-3.result s (pos 1) (search rules) (search rules) (search rules) (search rules) (search rules))
    ∙ ap reduced (same_point _ _ is_x is_y is_z refl refl) ∙ reduced-units x y z s
