use Rattle.viz_plan_walk.proofs.LevelListLemmas.{puts}
use Rattle.viz_plan_walk.proofs.levels.put_task.Goals as goal

pub returns-clause-put : goal.returns-clause-put
returns-clause-put c = puts (λ list. list.items) c.args.task.now c.args.lists.now.items _ c.in_ok-push_at.ensures.pushed
