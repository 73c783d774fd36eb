use Rattle.viz_fraction.specs.Points.{divisor_of}
use Rattle.viz_fraction.specs.Numbers.{point_of}
use Rattle.viz_fraction.proofs.CrossingsLemmas.{divides_steps}
use Rattle.viz_fraction.proofs.crossings.crossing_at.Goals as goal

pub lowest_terms-requires-clause-multiple : goal.lowest_terms-requires-clause-multiple
lowest_terms-requires-clause-multiple c =
    c.step_divisor.ensures (divisor_of (point_of c.in_ok-numbers.numbers))
    (divides_steps c.args.weights.now c.args.a.now c.args.b.now c.in_ok-numbers.numbers c.requires.weights c.in_ok-numbers.ensures.value)
