use Rattle.std.proofs.Common.{◌≡◌, [], drop}
use Rattle.viz_plan_meaning.specs.Steps.Visits.{visit_all, visit_all_used}
use Rattle.viz_plan_walk.specs.Walk.{to_step, named}
use Rattle.viz_cache.specs.Keys.{same_request}
use Rattle.viz_plan_walk.proofs.plan.plan_of.Given as goal

abbrev pub invariant-loop-request : goal.invariant-loop-request
invariant-loop-request g l =
    let rules = g.A.Asking in
    let kept = rules.kept l.asking in
    let widened = rules.widened l.asking in
    let asked = rules.asked l.asking in
    let c = to_step 256 l.steps l.place in
    let left = drop l.request-index l.requests in
    record {
      needs : visit_all same_request kept widened asked c left (named l.walk.needs) ≡ visit_all same_request kept widened asked c l.requests [];
      used : visit_all_used same_request kept widened asked c left (named l.walk.needs) (named l.walk.used) ≡ visit_all_used same_request kept widened asked c l.requests [] [];
    }
