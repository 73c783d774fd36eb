use Rattle.viz_merge.proofs.RepeatLemmas.{two-differ}
use Rattle.viz_merge.proofs.cells.differ.Goals as goal

pub returns : goal.returns
returns c = two-differ c.args.a c.args.b
