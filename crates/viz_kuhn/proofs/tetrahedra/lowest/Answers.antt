use Rattle.std.proofs.Common.{sym}
use Rattle.viz_kuhn.proofs.CubeLemmas.{lowest_of-quotients}
use Rattle.viz_kuhn.proofs.tetrahedra.lowest.Goals as goal

pub returns-clause-value : goal.returns-clause-value
returns-clause-value c =
    rw c.bounds.ensures.value (sym (lowest_of-quotients c.args.whole.now c.args.cube c.requires))
