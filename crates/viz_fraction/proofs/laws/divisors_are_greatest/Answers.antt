use Rattle.viz_fraction.proofs.DivisorsLemmas.{gcd_is}
use Rattle.viz_fraction.proofs.PointsLemmas.{divisor_is}
use Rattle.viz_fraction.proofs.laws.divisors_are_greatest.Goals as goal

pub returns-clause-two : goal.returns-clause-two
returns-clause-two c = gcd_is

pub returns-clause-five : goal.returns-clause-five
returns-clause-five c = divisor_is
