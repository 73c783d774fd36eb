use Rattle.viz_plan_meaning.specs.Laws.{inputs_of}
use Rattle.viz_plan_walk.proofs.LeveledLemmas.{table_more}
use Rattle.viz_plan_walk.proofs.levels.with_levels.Goals as goal

pub loop-need-preserved : goal.loop-need-preserved
loop-need-preserved g c =
    let rules = g.A.Asking in
    let kept = rules.kept c.args.asking.now in
    let widened = rules.widened c.args.asking.now in
    let asked = rules.asked c.args.asking.now in
    let x = c.need-item.result in
    table_more kept widened asked (inputs_of c.args.net.now) c.args.plan.now c.loop-need.need-index x c.loop-need.table _ c.in-Some.level _
    c.loop-need-test.true c.need-item.is c.loop-need.invariant
    c.in-Some.ensures
    c.in_ok-push.ensures.pushed
