use Rattle.std.proofs.Common.{◌+◌, map, [], get_or, sym, ap, subst, ◌∙◌}
use Rattle.std.proofs.lemmas.Option.{slice_get-get_or}
use Rattle.viz_network.specs.declared.steps.Step.{Step}
use Rattle.viz_network.specs.Step.{nodes_of}
use Rattle.viz_plan_walk.specs.TaskSteps.{AreFirstTasks, told}
use Rattle.viz_plan_walk.proofs.SourceLemmas.{more_tasks}
use Rattle.viz_plan_walk.proofs.tasks.task_steps.Goals as goal

pub loop-place-preserved : goal.loop-place-preserved
loop-place-preserved c =
    let net = c.args.net.now in
    let steps = c.args.steps.now in
    let k = c.loop-place.place in
    let none : Step = record { node = record { 0 = 0 }; inputs = [] } in
    let s = get_or steps k none in
    let inputs = c.told_all-inputs.ensures ∙ ap (λ t. map (told t) s.inputs) c.deref.ensures.value in
    record {
      begun =
          subst (λ t. AreFirstTasks net (nodes_of steps) (k + 1) t c.push.new.self.items) (sym c.in_ok-push-2.ensures.items)
          (subst (AreFirstTasks net (nodes_of steps) (k + 1) _) (sym c.in_ok-push.ensures.items)
          (more_tasks net steps c.requires k s c.loop-place.tasks.items c.loop-place.sources.items c.told_all-inputs.result c.own_source-source.result
          (slice_get-get_or steps k none c.loop-place-test.true) c.loop-place.invariant.begun inputs c.own_source-source.ensures));
    }
