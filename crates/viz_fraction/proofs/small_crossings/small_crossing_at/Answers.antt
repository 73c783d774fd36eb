use Rattle.viz_fraction.specs.Points.{divisor_of}
use Rattle.viz_fraction.specs.Numbers.{point_of}
use Rattle.viz_fraction.specs.Words.{numbers_of, weights_of}
use Rattle.viz_fraction.proofs.CrossingsLemmas.{divides_steps}
use Rattle.viz_fraction.proofs.small_crossings.small_crossing_at.Goals as goal

pub small_lowest_terms-requires-clause-multiple : goal.small_lowest_terms-requires-clause-multiple
small_lowest_terms-requires-clause-multiple c =
    let n = numbers_of c.mixed_words-numbers.result in
    c.word_step_divisor.ensures (divisor_of (point_of n))
    (divides_steps (weights_of c.args.shares.now) (numbers_of c.args.a.now) (numbers_of c.args.b.now) n c.requires.shares c.mixed_words-numbers.ensures.value)
