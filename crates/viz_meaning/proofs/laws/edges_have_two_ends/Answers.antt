use Rattle.viz_meaning.proofs.NameSets.{edge-turned, pair-ends}
use Rattle.viz_meaning.proofs.laws.edges_have_two_ends.Goals as goal

pub returns-clause-one : goal.returns-clause-one
returns-clause-one c m n = edge-turned m n

pub returns-clause-both : goal.returns-clause-both
returns-clause-both c m n same = pair-ends m n same
