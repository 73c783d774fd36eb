use Rattle.std.proofs.Common.{◌≡◌, take, ◌-◌}
use Rattle.viz_plan_meaning.specs.Steps.Visits.{visit, visit_used}
use Rattle.viz_plan_walk.specs.Walk.{grow, above, named}
use Rattle.viz_cache.specs.Keys.{same_request}
use Rattle.viz_plan_walk.proofs.walk.+enter.Given as goal

abbrev pub decreases-enter : goal.decreases-enter
decreases-enter g l = l.fuel

abbrev pub invariant-loop-input : goal.invariant-loop-input
invariant-loop-input g l =
    let rules = g.A.Asking in
    let ways = grow (above (l.fuel - 1) l.steps) (take l.input-index l.inputs) in
    record {
      needs : named l.walk.needs ≡ visit same_request (rules.kept l.asking) (rules.widened l.asking) (rules.asked l.asking) ways l.asked (named l.initial.walk.needs);
      used : named l.walk.used ≡ visit_used same_request (rules.kept l.asking) (rules.widened l.asking) (rules.asked l.asking) ways l.asked (named l.initial.walk.needs) (named l.initial.walk.used);
    }
