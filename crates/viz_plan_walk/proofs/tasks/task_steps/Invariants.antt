use Rattle.viz_network.specs.Step.{nodes_of}
use Rattle.viz_plan_walk.specs.TaskSteps.{AreFirstTasks}
use Rattle.viz_plan_walk.proofs.tasks.task_steps.Given as goal

abbrev pub invariant-loop-place : goal.invariant-loop-place
invariant-loop-place l = record { begun : AreFirstTasks l.net (nodes_of l.steps) l.place l.tasks.items l.sources.items }
