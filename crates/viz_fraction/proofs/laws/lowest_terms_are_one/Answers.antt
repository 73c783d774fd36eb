use Rattle.viz_fraction.proofs.PointsLemmas.{reduced_same_place, reduced_lowest, reduced_positive, reduced-same_place, reduced-lowest}
use Rattle.viz_fraction.proofs.laws.lowest_terms_are_one.Goals as goal

pub returns-clause-place : goal.returns-clause-place
returns-clause-place c = reduced_same_place

pub returns-clause-lowest : goal.returns-clause-lowest
returns-clause-lowest c = λ p positive. (reduced_lowest p positive, reduced_positive p positive)

pub returns-clause-same : goal.returns-clause-same
returns-clause-same c = reduced-same_place

pub returns-clause-kept : goal.returns-clause-kept
returns-clause-kept c = λ p point. reduced-lowest p point.lowest
