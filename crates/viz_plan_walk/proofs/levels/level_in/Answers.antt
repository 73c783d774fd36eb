use Rattle.std.proofs.Common.{◌≡◌, Some, ap, subst, ◌∙◌}
use Rattle.std.specs.List.{slice_get}
use Rattle.viz_network.specs.Step.{nodes_of}
use Rattle.viz_requests.specs.Serving.{serves}
use Rattle.viz_plan_walk.specs.Leveling.{above_by, levelled}
use Rattle.viz_plan_walk.proofs.LeveledLemmas.{if_some_more, level_at}
use Rattle.viz_plan_walk.proofs.levels.level_in.Goals as goal

pub returns : goal.returns
returns g c =
    let rules = g.A.Asking in
    let kept = rules.kept c.args.asking.now in
    let widened = rules.widened c.args.asking.now in
    let table = levelled c.args.table.now in
    let need = c.args.need.now in
    let r = rules.asked c.args.asking.now need.node.0 need.request in
    let tasks = c.args.tasks.now.steps.items in
    let nodes = ap nodes_of c.deref.ensures.value ∙ c.requires.tasks.nodes in
    if_some_more c.level_of.result (λ l h.
    level_at kept widened c.args.net.now (rules.order c.args.asking.now) tasks c.args.tasks.now.sources.items c.requires.tasks table r need.place need.node h.0 l
    (subst (λ t. slice_get t need.place ≡ Some h.0) c.deref.ensures.value h.1) h.2
    (subst (λ o. l ≡ above_by serves kept widened o table r h.0.inputs) nodes h.3)) c.level_of.ensures
