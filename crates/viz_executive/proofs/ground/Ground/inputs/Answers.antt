use Rattle.std.proofs.Common.{slice_get, sym, subst, ◌∙◌, ap}
use Rattle.viz_network.specs.Step.{nodes_of}
use Rattle.viz_plan_meaning.specs.Networks.{ways_at}
use Rattle.viz_plan_meaning.specs.Plan.{heads}
use Rattle.viz_plan_walk.specs.TaskSteps.{AreSourced}
use Rattle.viz_executive.specs.Steps.Grounds.{GroundData}
use Rattle.viz_executive.proofs.GroundLemmas.{sourced}
use Rattle.viz_executive.proofs.ListLemmas.{read_at}
use Rattle.viz_executive.proofs.ground.Ground.inputs.Goals as goal

pub returns-in-Some : goal.returns-in-Some
returns-in-Some c =
    let i = c.self.inside in
    let inv = c.self.invariant in
    let step = c.in-Some.step.now in
    let look = c.in-Some.ensures.lookup in
    let order = ap (λ (g : GroundData). g.order) c.self.view_is in
    let net = sym inv.of_net ∙ ap (λ (g : GroundData). g.sites.net) c.self.view_is in
    let at = ap (λ o. slice_get o c.args.place) order ∙ c.requires.at in
    let here = read_at c.deref.result.now i.tasks.steps.items c.args.place step look.3.0 look.1 c.deref.ensures.value in
    subst (λ n. AreSourced c.args.self.now.order c.args.place (heads (ways_at n c.args._node.0)) step.inputs) net
    (subst (λ o. AreSourced o c.args.place (heads (ways_at i.net.now c.args._node.0)) step.inputs) order
    (sourced i.net.now (nodes_of i.steps.now) i.tasks.steps.items i.tasks.sources.items inv.past c.args.place step c.args._node at here))
