use Rattle.std.proofs.Common.{rules}
use Rattle.viz_fraction.proofs.ShortLemmas.{whole_is_point}
use Rattle.viz_fraction.proofs.small_points.whole.Goals as goal

pub invariant_of-result : goal.invariant_of-result
invariant_of-result c = whole_is_point _ _ _ _ (search rules) (search rules) (search rules) (search rules)

pub returns-clause-valid : goal.returns-clause-valid
returns-clause-valid c = whole_is_point _ _ _ _ (search rules) (search rules) (search rules) (search rules)
