use Rattle.viz_flags.proofs.RowLemmas.{held-two}
use Rattle.viz_flags.proofs.cases.push_held.Goals as goal

pub returns : goal.returns
returns g c = held-two c.args.count c.args.ends c.args.edges _ _ _ c.if-count-eq0.false c.if-count-eq1.false c.in_ok-push_triangle.ensures c.in_ok-push_triangle-2.ensures
