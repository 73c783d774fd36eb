use Rattle.std.proofs.Common.{◌≡◌, drop}
use Rattle.viz_requests.specs.Serving.{serves}
use Rattle.viz_plan_meaning.specs.Levels.{above_first}
use Rattle.viz_plan_walk.specs.Leveling.{levelled}
use Rattle.viz_plan_walk.proofs.levels.above_among.Given as goal

abbrev pub invariant-loop-task : goal.invariant-loop-task
invariant-loop-task l = above_first serves (levelled l.table) l.node.0 l.wanted ≡ above_first serves (levelled (drop l.task-index l.table)) l.node.0 l.wanted
