use Rattle.std.proofs.Common.{◌≡◌, drop}
use Rattle.viz_plan_meaning.specs.Plan.{has as has_need}
use Rattle.viz_plan_walk.specs.Walk.{named}
use Rattle.viz_cache.specs.Keys.{same_request}
use Rattle.viz_plan_walk.proofs.walk.is_among.Given as goal

abbrev pub invariant-loop-need : goal.invariant-loop-need
invariant-loop-need l = has_need same_request (named l.seen) l.node.0 l.request ≡ has_need same_request (named (drop l.need-index l.seen)) l.node.0 l.request
