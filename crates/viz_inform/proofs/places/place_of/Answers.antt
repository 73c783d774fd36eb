use Rattle.viz_inform.proofs.PlaceLemmas.{place_more, place_none}
use Rattle.viz_inform.proofs.places.place_of.Goals as goal

pub loop-place-preserved : goal.loop-place-preserved
loop-place-preserved c = place_more c.args.steps.now c.args.node c.loop-place.place _ c.loop-place-test.true c.if-eq.ensures c.loop-place.invariant

pub returns-clause-none : goal.returns-clause-none
returns-clause-none c is = place_none c.args.steps.now c.args.node c.loop-place.place c.loop-place-test.false c.loop-place.invariant
