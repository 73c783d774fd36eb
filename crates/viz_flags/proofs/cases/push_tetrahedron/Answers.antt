use Rattle.viz_flags.proofs.RowLemmas.{held-pushed}
use Rattle.viz_flags.proofs.cases.push_tetrahedron.Goals as goal

pub returns : goal.returns
returns g c = held-pushed _ c.args.edges c.args.mask c.requires.below _ _ c.in_ok-push_held.ensures
