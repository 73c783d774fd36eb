use Rattle.std.proofs.Common.{◌≡◌, ◌∙◌, ap, sym, subst, rules}
use Rattle.std.specs.Prelude.{int_div}
use Rattle.viz_fraction.specs.Points.{IsPoint, numbers, reduced}
use Rattle.viz_fraction.specs.Numbers.{point_of}
use Rattle.viz_fraction.proofs.FieldsLemmas.{numbers-kept}
use Rattle.viz_fraction.proofs.PointsLemmas.{reduced_is_point, same_point}
use Rattle.viz_fraction.proofs.points.divided.Goals as goal

pub invariant_of-result : goal.invariant_of-result
invariant_of-result c =
    let n = c.args.n.now in
    let x = c.quotient.result in
    let y = c.quotient-2.result in
    let z = c.quotient-3.result in
    let s = c.quotient-4.result in
    let w = c.quotient-5.result in
    let divisor = c.requires.greatest in
    let same : numbers x y z s w ≡ reduced (point_of n) = same_point _ _
    (c.quotient.ensures ∙ ap (λ d. int_div n.x d) divisor)
    (c.quotient-2.ensures ∙ ap (λ d. int_div n.y d) divisor)
    (c.quotient-3.ensures ∙ ap (λ d. int_div n.z d) divisor)
    (c.quotient-4.ensures ∙ ap (λ d. int_div n.s d) divisor)
    (c.quotient-5.ensures ∙ ap (λ d. int_div n.w d) divisor) in
    let all = numbers-kept x y z s w (search rules) (search rules) (search rules) (search rules) (search rules) ∙ same in
    subst IsPoint (sym all) (reduced_is_point (point_of n) c.requires.positive c.requires.narrow)
