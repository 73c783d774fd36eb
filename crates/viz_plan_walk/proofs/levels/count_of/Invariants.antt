use Rattle.std.proofs.Common.{take}
use Rattle.viz_plan_meaning.specs.Levels.{AllUnder}
use Rattle.viz_plan_walk.specs.Leveling.{levelled}
use Rattle.viz_plan_walk.proofs.levels.count_of.Given as goal

abbrev pub invariant-loop-task : goal.invariant-loop-task
invariant-loop-task l = record { under : AllUnder l.count (levelled (take l.task-index l.table)) }
