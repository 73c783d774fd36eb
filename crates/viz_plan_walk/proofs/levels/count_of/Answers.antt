use Rattle.viz_plan_walk.proofs.LeveledLemmas.{under_more}
use Rattle.viz_plan_walk.proofs.levels.count_of.Goals as goal

pub loop-task-preserved : goal.loop-task-preserved
loop-task-preserved c = record {
  under = under_more c.args.table.now c.loop-task.task-index c.task-item.result c.loop-task.count _ c.loop-task-test.true c.task-item.is c.loop-task.invariant.under c.in_ok-count.ensures;
}
