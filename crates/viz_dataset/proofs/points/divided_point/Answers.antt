use Rattle.std.proofs.Common.{ℤ, ap, ◌∙◌, rules}
use Rattle.std.specs.Prelude.{◌*ℤ◌}
use Rattle.std.proofs.lemmas.Int.{to_z-of_z}
use Rattle.std.specs.Int.{w128}
use Rattle.viz_fraction.specs.Points.{numbers, reduced}
use Rattle.viz_fraction.proofs.FieldsLemmas.{kept, numbers-kept}
use Rattle.viz_dataset.specs.Images.{billion}
use Rattle.viz_dataset.proofs.points.divided_point.Goals as goal

pub returns : goal.returns
returns c =
    let x = c.args.x.now in
    let y = c.args.y.now in
    let z = c.args.z.now in
    let n = c.args.scalar.now in
    let scalar = to_z-of_z w128 n (search rules) in
    c.in-Ok.ensures.value ∙ ap (λ (t : ℤ). reduced (numbers (kept x) (kept y) (kept z) (kept (t *ℤ billion)) billion)) scalar
    ∙ ap reduced (numbers-kept x y z (n *ℤ billion) billion (search rules) (search rules) (search rules) (search rules) (search rules))
