use Rattle.std.proofs.Common.{subst, sym, ◌∙◌, ap}
use Rattle.viz_plan.specs.Told.{known_with}
use Rattle.viz_requests.specs.Shapes.{requests_of}
use Rattle.viz_task_parts.specs.Tasks.{IsUpdate}
use Rattle.viz_executive.proofs.UpdateLemmas.{update_of}
use Rattle.viz_executive.proofs.produced.carried.Goals as goal

pub new-requires-clause-update : goal.new-requires-clause-update
new-requires-clause-update g c =
    subst (IsUpdate (known_with c.args.net.now c.args.told.now c.args.entries.now) c.args.sink.0)
    (sym (c.deref-2.ensures.value ∙ c.in_ok-requests.ensures.value ∙ ap (λ o. requests_of o c.args.shape.now.pieces) c.extent_told.ensures.value))
    (update_of c.plans_fit.ensures.told c.plans_fit.ensures.update c.args.net.now c.args.told.now c.args.entries.now c.args.sink c.args.shape.now.pieces c.in_ok-steps.steps.items c.in_ok-steps.ensures.value c.requires.there c.requires.ports
    c.requires.told)
