use Rattle.std.proofs.Common.{◌≡◌, [], drop, ◌++◌}
use Rattle.viz_plan_meaning.specs.Plan.{thin}
use Rattle.viz_plan_walk.specs.Walk.{named}
use Rattle.viz_requests.specs.Serving.{serves}
use Rattle.viz_plan_walk.proofs.thin.thinned.Given as goal

abbrev pub invariant-loop-need : goal.invariant-loop-need
invariant-loop-need l = named l.plan.items ++ thin serves (named l.front) (named (drop l.need-index l.needs)) ≡ thin serves [] (named l.needs)
