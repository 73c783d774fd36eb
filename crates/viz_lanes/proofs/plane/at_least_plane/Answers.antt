use Rattle.std.proofs.Common.{int_le, arith}
use Rattle.viz_lanes.proofs.PlaneLemmas.{own_left, plane_of_word}
use Rattle.viz_lanes.proofs.plane.at_least_plane.Goals as goal

pub at_least_word-requires-clause-own : goal.at_least_word-requires-clause-own
at_least_word-requires-clause-own g c = own_left g.T.Lane.own c.args.xs.now c.loop-at.at c.show_all.ensures

pub loop-at-preserved : goal.loop-at-preserved
loop-at-preserved g c = (
  omega arith,
  omega arith,
  plane_of_word (λ x. int_le (g.T.Lane.whole c.args.v) (g.T.Lane.whole x)) c.args.xs.now c.loop-at.at c.loop-at.invariant.2 c.at_least_word.ensures c.in_ok-push_word.ensures.ok,
)
