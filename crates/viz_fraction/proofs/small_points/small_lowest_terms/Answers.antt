use Rattle.std.proofs.Common.{◌<◌, ◌^◌, sym, ◌∙◌, arith}
use Rattle.std.proofs.lemmas.Int.{ints}
use Rattle.viz_fraction.specs.Points.{divisor_of}
use Rattle.viz_fraction.specs.Numbers.{point_of}
use Rattle.viz_fraction.specs.Words.{numbers_of}
use Rattle.viz_fraction.proofs.PointsLemmas.{divisor_above_0, reduced-lowest}
use Rattle.viz_fraction.proofs.ShortLemmas.{lowest_is_point, divisor_fits}
use Rattle.viz_fraction.proofs.small_points.small_lowest_terms.Goals as goal

pub small_as_it_stands-requires : goal.small_as_it_stands-requires
small_as_it_stands-requires c =
    lowest_is_point _ c.args.start c.if-start-eq1.true c.requires.positive c.requires.small c.requires.multiple

pub returns-then-start-eq1 : goal.returns-then-start-eq1
returns-then-start-eq1 c =
    let point = lowest_is_point _ c.args.start c.if-start-eq1.true c.requires.positive c.requires.small c.requires.multiple in
    c.small_as_it_stands.ensures ∙ sym (reduced-lowest _ point.lowest)

pub overflow_cast-divisor : goal.overflow_cast-divisor
overflow_cast-divisor c =
    let most : divisor_of (point_of (numbers_of c.args.n.now)) < 2 ^ 63 = divisor_fits _ c.requires.positive c.requires.small in
    omega (arith, ints)

pub small_divided-requires-clause-greatest : goal.small_divided-requires-clause-greatest
small_divided-requires-clause-greatest c =
    let most : divisor_of (point_of (numbers_of c.args.n.now)) < 2 ^ 63 = divisor_fits _ c.requires.positive c.requires.small in
    omega (arith, ints)

pub small_divided-requires-clause-above : goal.small_divided-requires-clause-above
small_divided-requires-clause-above c =
    let most : divisor_of (point_of (numbers_of c.args.n.now)) < 2 ^ 63 = divisor_fits _ c.requires.positive c.requires.small in
    let above : 0 < divisor_of (point_of (numbers_of c.args.n.now)) = divisor_above_0 _ c.requires.positive in
    omega (arith, ints)
