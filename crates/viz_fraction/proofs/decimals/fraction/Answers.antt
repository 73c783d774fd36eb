use Rattle.viz_fraction.proofs.DecimalsLemmas.{places_below}
use Rattle.viz_fraction.proofs.decimals.fraction.Goals as goal

pub returns-then-rest-lt-SMALL-clause-below : goal.returns-then-rest-lt-SMALL-clause-below
returns-then-rest-lt-SMALL-clause-below c =
    rw (c.from.ensures, c.power.ensures.value) (places_below c.args.rest c.args.w c.args.k c.requires.proper)

pub returns-clause-below : goal.returns-clause-below
returns-clause-below c = rw c.digit_by_digit.ensures (places_below c.args.rest c.args.w c.args.k c.requires.proper)
