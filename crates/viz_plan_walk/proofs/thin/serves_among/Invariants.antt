use Rattle.std.proofs.Common.{◌≡◌, drop}
use Rattle.viz_plan_meaning.specs.Plan.{served}
use Rattle.viz_plan_walk.specs.Walk.{named}
use Rattle.viz_requests.specs.Serving.{serves}
use Rattle.viz_plan_walk.proofs.thin.serves_among.Given as goal

abbrev pub invariant-loop-need : goal.invariant-loop-need
invariant-loop-need l = served serves (named l.needs) l.node.0 l.request ≡ served serves (named (drop l.need-index l.needs)) l.node.0 l.request
