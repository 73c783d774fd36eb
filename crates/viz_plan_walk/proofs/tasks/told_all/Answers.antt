use Rattle.viz_network.proofs.EightLemmas.{each_of_eight}
use Rattle.viz_plan_walk.specs.TaskSteps.{told}
use Rattle.viz_plan_walk.proofs.tasks.told_all.Goals as goal

pub returns : goal.returns
returns c = each_of_eight (told c.args.sources.now) _ c.args.places.now c.told-places _ _ _ _ _ _ _ _
    c.told_at.ensures c.told_at-2.ensures c.told_at-3.ensures c.told_at-4.ensures
    c.told_at-5.ensures c.told_at-6.ensures c.told_at-7.ensures c.told_at-8.ensures
