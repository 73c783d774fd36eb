use Rattle.std.proofs.Common.{ap, ◌∙◌, []}
use Rattle.viz_plan_meaning.specs.Plan.{thin}
use Rattle.viz_plan_walk.specs.Walk.{named, to_step}
use Rattle.viz_requests.specs.Serving.{serves}
use Rattle.viz_plan_walk.proofs.RequestLemmas.{plan_end, used_end}
use Rattle.viz_plan_walk.proofs.plan.plan_of.Goals as goal

pub returns-clause-tasks : goal.returns-clause-tasks
returns-clause-tasks g c =
    c.in_ok-tasks.ensures
    ∙ ap (λ l. thin serves [] (named l)) c.list.ensures.value
    ∙ plan_end (g.A.Asking.kept c.args.asking.now) (g.A.Asking.widened c.args.asking.now) (g.A.Asking.asked c.args.asking.now) (to_step 256 c.args.steps.now c.args.place) c.args.requests.now c.requires.one
    (named c.loop-request.walk.needs) c.loop-request.request-index c.loop-request-test.false c.loop-request.invariant.needs

pub returns-clause-used : goal.returns-clause-used
returns-clause-used g c =
    ap named c.into_list-used.ensures.value
    ∙ used_end (g.A.Asking.kept c.args.asking.now) (g.A.Asking.widened c.args.asking.now) (g.A.Asking.asked c.args.asking.now) (to_step 256 c.args.steps.now c.args.place) c.args.requests.now c.requires.one
    (named c.loop-request.walk.needs) (named c.loop-request.walk.used) c.loop-request.request-index c.loop-request-test.false c.loop-request.invariant.used
