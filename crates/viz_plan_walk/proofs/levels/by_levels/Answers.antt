use Rattle.std.proofs.Common.{◌∙◌}
use Rattle.viz_plan_walk.specs.Walk.{named}
use Rattle.viz_plan_walk.proofs.LevelListLemmas.{lists_end, task_more}
use Rattle.viz_plan_walk.proofs.levels.by_levels.Goals as goal

pub loop-task-preserved : goal.loop-task-preserved
loop-task-preserved c = record {
  lists = task_more (λ list. named list.items) c.args.table.now c.loop-task.task-index c.task-item.result c.loop-task.all.items _
      c.loop-task-test.true c.task-item.is c.loop-task.invariant.lists c.in_ok-put_task.ensures.put;
  count = c.in_ok-put_task.ensures.count ∙ c.loop-task.invariant.count;
}

pub returns-clause-each : goal.returns-clause-each
returns-clause-each c = lists_end (λ list. named list.items) c.args.table.now c.loop-task.task-index c.loop-task.all.items c.loop-task-test.false c.loop-task.invariant.lists
