use Rattle.std.proofs.Common.{◌<◌, ◌≤◌, ◌^◌, sym, ◌∙◌, arith}
use Rattle.std.proofs.lemmas.Int.{ints}
use Rattle.viz_fraction.specs.Points.{divisor_of}
use Rattle.viz_fraction.specs.Numbers.{point_of}
use Rattle.viz_fraction.proofs.PointsLemmas.{divisor_le, divisor_above_0, reduced-lowest}
use Rattle.viz_fraction.proofs.points.lowest_terms.Goals as goal

pub overflow_cast-divisor : goal.overflow_cast-divisor
overflow_cast-divisor c =
    let narrow : divisor_of (point_of c.args.n.now) ≤ 2 ^ 120 = divisor_le _ c.requires.positive c.requires.narrow in
    omega (arith, ints)

pub divided-requires-clause-greatest : goal.divided-requires-clause-greatest
divided-requires-clause-greatest c =
    let narrow : divisor_of (point_of c.args.n.now) ≤ 2 ^ 120 = divisor_le _ c.requires.positive c.requires.narrow in
    omega (arith, ints)

pub divided-requires-clause-above : goal.divided-requires-clause-above
divided-requires-clause-above c =
    let narrow : divisor_of (point_of c.args.n.now) ≤ 2 ^ 120 = divisor_le _ c.requires.positive c.requires.narrow in
    let above : 0 < divisor_of (point_of c.args.n.now) = divisor_above_0 _ c.requires.positive in
    omega (arith, ints)

pub point_as_it_stands-requires : goal.point_as_it_stands-requires
point_as_it_stands-requires c =
    record {
      positive = c.requires.positive;
      lowest = sym c.divisor_of_five-divisor.ensures ∙ c.if-divisor-eq1.true;
      narrow = c.requires.narrow;
    }

pub returns-then-divisor-eq1 : goal.returns-then-divisor-eq1
returns-then-divisor-eq1 c =
    c.point_as_it_stands.ensures ∙ sym (reduced-lowest (point_of c.args.n.now) (sym c.divisor_of_five-divisor.ensures ∙ c.if-divisor-eq1.true))
