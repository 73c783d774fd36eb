use Rattle.std.proofs.Common.{◌≡◌, refl, Some, slice_get, sym, subst, ◌∙◌, ap}
use Rattle.viz_network.specs.Step.{nodes_of}
use Rattle.viz_plan_meaning.specs.Networks.{head_of, ways_to}
use Rattle.viz_executive.specs.Steps.Grounds.{GroundData}
use Rattle.viz_executive.proofs.GroundLemmas.{node_at, reaches}
use Rattle.viz_executive.proofs.ListLemmas.{read_at}
use Rattle.viz_executive.proofs.ground.Ground.source.Goals as goal

pub returns : goal.returns
returns c =
    let i = c.self.inside in
    let inv = c.self.invariant in
    let step = c.in_ok-step.step.now in
    let place = c.in-Some-Some.place in
    let source = c.in-Some-Some.ensures.lookup in
    let look = c.in_ok-step.ensures.lookup in
    let order = ap (λ (g : GroundData). g.order) c.self.view_is in
    let net = sym inv.of_net ∙ ap (λ (g : GroundData). g.sites.net) c.self.view_is in
    let sink = ap (λ (g : GroundData). g.sink) c.self.view_is in
    let found = read_at c.deref.result.now i.tasks.sources.items c.in_ok-sink.sink c.in-Some-Some.field-0.now source.3.0 source.1 c.deref.ensures.value ∙ ap Some c.in-Some-Some.field-0-is in
    let here = node_at i.steps.now place step (read_at i.steps.now i.steps.now place step look.3.0 look.1 refl) in
    let reached = reaches i.net.now (nodes_of i.steps.now) i.tasks.steps.items i.tasks.sources.items inv.past c.in_ok-sink.sink place i.sink step.node c.in_ok-sink.ensures.some found here in
    record {
      at = subst (λ o. slice_get o place ≡ Some step.node) order here;
      reached = subst (λ n. head_of (ways_to n c.args.self.now.sink) ≡ Some step.node.0) net
          (subst (λ s. head_of (ways_to i.net.now s) ≡ Some step.node.0) sink reached);
    }
