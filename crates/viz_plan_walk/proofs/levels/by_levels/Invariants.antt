use Rattle.std.proofs.Common.{◌≡◌, length, take}
use Rattle.viz_plan_walk.specs.Leveling.{AreAtLevels, levelled}
use Rattle.viz_plan_walk.specs.Walk.{named}
use Rattle.viz_plan_walk.proofs.levels.by_levels.Given as goal

abbrev pub invariant-loop-task : goal.invariant-loop-task
invariant-loop-task l = record {
  lists : AreAtLevels (λ list. named list.items) (levelled (take l.task-index l.table)) l.all.items;
  count : length l.all.items ≡ l.count;
}
