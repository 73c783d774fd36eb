use Rattle.std.proofs.Common.{◌≡◌, ℕ, IfOk, sym, ap, subst, ◌∙◌}
use Rattle.viz_cache.specs.Keys.{same_request}
use Rattle.viz_requests.specs.Serving.{serves}
use Rattle.viz_plan_meaning.specs.Plan.{Upstream, plan, used}
use Rattle.viz_plan_meaning.specs.Steps.Visits.{IsOne}
use Rattle.viz_plan_walk.specs.Walk.{named, to_step}
use Rattle.viz_plan_walk.proofs.TaskLemmas.{reached_at, reached_is_one, nothing_at, no_plan, none_used}
use Rattle.viz_plan_walk.proofs.plan.plan_to.Goals as goal

pub plan_of-requires-clause-one : goal.plan_of-requires-clause-one
plan_of-requires-clause-one g c =
    let source = rw c.in-Some-Some.field-0-is at c.in-Some-Some.ensures in
    subst (λ l. (cone : ℕ → Upstream) × IsOne cone (to_step 256 l c.in-Some-Some.source)) (sym c.deref.ensures.value)
    (reached_is_one c.args.net.now c.args.steps.now c.requires.steps c.args.tasks.now.steps.items c.args.tasks.now.sources.items c.requires.tasks
    c.args.place c.args.sink c.in-Some-Some.source c.requires.at source)

pub returns-in-Some-Some-clause-tasks : goal.returns-in-Some-Some-clause-tasks
returns-in-Some-Some-clause-tasks g c =
    let rules = g.A.Asking in
    let source = rw c.in-Some-Some.field-0-is at c.in-Some-Some.ensures in
    subst (λ w. IfOk c.plan_of.result (λ p. named p.tasks.items ≡ plan serves (rules.kept c.args.asking.now) (rules.widened c.args.asking.now) (rules.asked c.args.asking.now) w c.args.requests.now))
    (ap (λ l. to_step 256 l c.in-Some-Some.source) c.deref.ensures.value
    ∙ reached_at c.args.net.now c.args.steps.now c.requires.steps c.args.tasks.now.steps.items c.args.tasks.now.sources.items c.requires.tasks
    c.args.place c.args.sink c.in-Some-Some.source c.requires.at source)
    c.plan_of.ensures.tasks

pub returns-in-Some-Some-clause-used : goal.returns-in-Some-Some-clause-used
returns-in-Some-Some-clause-used g c =
    let rules = g.A.Asking in
    let source = rw c.in-Some-Some.field-0-is at c.in-Some-Some.ensures in
    subst (λ w. IfOk c.plan_of.result (λ p. named p.used.items ≡ used same_request (rules.kept c.args.asking.now) (rules.widened c.args.asking.now) (rules.asked c.args.asking.now) w c.args.requests.now))
    (ap (λ l. to_step 256 l c.in-Some-Some.source) c.deref.ensures.value
    ∙ reached_at c.args.net.now c.args.steps.now c.requires.steps c.args.tasks.now.steps.items c.args.tasks.now.sources.items c.requires.tasks
    c.args.place c.args.sink c.in-Some-Some.source c.requires.at source)
    c.plan_of.ensures.used

pub returns-in-Some-None-clause-tasks : goal.returns-in-Some-None-clause-tasks
returns-in-Some-None-clause-tasks g c =
    let rules = g.A.Asking in
    let source = rw c.in-Some-None.field-0-is at c.in-Some-None.ensures in
    ap named c.new.ensures.items
    ∙ no_plan serves same_request (rules.kept c.args.asking.now) (rules.widened c.args.asking.now) (rules.asked c.args.asking.now) _ c.args.requests.now
    (nothing_at c.args.net.now c.args.steps.now c.requires.steps c.args.tasks.now.steps.items c.args.tasks.now.sources.items c.requires.tasks
    c.args.place c.args.sink c.requires.at source)

pub returns-in-Some-None-clause-used : goal.returns-in-Some-None-clause-used
returns-in-Some-None-clause-used g c =
    let rules = g.A.Asking in
    let source = rw c.in-Some-None.field-0-is at c.in-Some-None.ensures in
    ap named c.new-in-Some-None.ensures.items
    ∙ none_used serves same_request (rules.kept c.args.asking.now) (rules.widened c.args.asking.now) (rules.asked c.args.asking.now) _ c.args.requests.now
    (nothing_at c.args.net.now c.args.steps.now c.requires.steps c.args.tasks.now.steps.items c.args.tasks.now.sources.items c.requires.tasks
    c.args.place c.args.sink c.requires.at source)
