use Rattle.viz_lanes.proofs.PlaneLemmas.{own_more}
use Rattle.viz_lanes.proofs.plane.show_all.Goals as goal

pub loop-x-preserved : goal.loop-x-preserved
loop-x-preserved g c = own_more g.T.Lane.own c.args.xs.now c.loop-x.x-index c.x-item.result c.loop-x-test.true c.x-item.is c.loop-x.invariant c.show.ensures
