use Rattle.std.proofs.Common.{rules}
use Rattle.viz_fraction.proofs.ShortLemmas.{short_is_narrow}
use Rattle.viz_fraction.proofs.crossings.mixed.Goals as goal

pub returns-then-are_short-clause-succeeds : goal.returns-then-are_short-clause-succeeds
returns-then-are_short-clause-succeeds c = (λ ok. short_is_narrow _ _ _ (search rules), λ narrow. search rules)
