use Rattle.std.proofs.Common.{◌≡◌, ◌∙◌, ap, sym, subst, rules, arith}
use Rattle.std.specs.Prelude.{int_div}
use Rattle.std.specs.Int.{w64}
use Rattle.std.proofs.lemmas.Int.{ints, to_z-of_z}
use Rattle.viz_fraction.specs.Points.{IsPoint, numbers, divisor_of, reduced}
use Rattle.viz_fraction.specs.Numbers.{point_of}
use Rattle.viz_fraction.specs.Words.{numbers_of}
use Rattle.viz_fraction.proofs.PointsLemmas.{reduced_is_point, reduced-lowest, same_point}
use Rattle.viz_fraction.proofs.ShortLemmas.{small_is_narrow}
use Rattle.viz_fraction.proofs.small_points.small_divided.Goals as goal

pub returns-then-divisor-eq1 : goal.returns-then-divisor-eq1
returns-then-divisor-eq1 c =
    let n = point_of (numbers_of c.args.n.now) in
    let one : divisor_of n ≡ 1 = omega (arith, ints, c.requires.greatest, c.if-divisor-eq1.true) in
    c.small_as_it_stands.ensures ∙ sym (reduced-lowest n one)

pub invariant_of-result : goal.invariant_of-result
invariant_of-result c =
    let n = numbers_of c.args.n.now in
    let divisor = c.requires.greatest in
    let same : numbers c.small_quotient.result c.small_quotient-2.result c.small_quotient-3.result c.small_quotient-4.result c.small_quotient-5.result ≡ reduced (point_of n) =
    same_point _ _
    (c.small_quotient.ensures ∙ ap (λ d. int_div n.x d) divisor)
    (c.small_quotient-2.ensures ∙ ap (λ d. int_div n.y d) divisor)
    (c.small_quotient-3.ensures ∙ ap (λ d. int_div n.z d) divisor)
    (c.small_quotient-4.ensures ∙ ap (λ d. int_div n.s d) divisor)
    (c.small_quotient-5.ensures ∙ ap (λ d. int_div n.w d) divisor) in
    let stays = same_point _ _
    (to_z-of_z w64 c.small_quotient.result (search rules))
    (to_z-of_z w64 c.small_quotient-2.result (search rules))
    (to_z-of_z w64 c.small_quotient-3.result (search rules))
    (to_z-of_z w64 c.small_quotient-4.result (search rules))
    (to_z-of_z w64 c.small_quotient-5.result (search rules)) ∙ same in
    subst IsPoint (sym stays) (reduced_is_point (point_of n) c.requires.positive (small_is_narrow (point_of n) c.requires.small))
