use Rattle.std.proofs.Common.{◌≡◌, ◌+◌, length, set, refl, sym, subst, ◌∙◌, arith, rules}
use Rattle.viz_network.specs.Steps.Places.{AreFirstSteps}
use Rattle.viz_network.proofs.OrderLemmas.{stands_there}
use Rattle.viz_network.proofs.PlaceLemmas.{no_steps, more_steps, all_steps}
use Rattle.viz_network.proofs.steps.steps_in.Goals as goal

pub rank_in-rank-requires-clause-there : goal.rank_in-rank-requires-clause-there
rank_in-rank-requires-clause-there c = stands_there c.args.nodes.now.entries c.args.order.now c.requires c.loop-id.id-index _ c.loop-id-test.true

pub loop-id-init : goal.loop-id-init
loop-id-init c = record {
  first = subst (AreFirstSteps c.args.nodes.now.entries c.args.order.now 0 _) (sym c.in_ok-steps.ensures.items) (no_steps c.args.nodes.now.entries c.args.order.now _ refl);
}

pub loop-id-preserved : goal.loop-id-preserved
loop-id-preserved c =
    let net = c.args.nodes.now.entries in
    let order = c.args.order.now in
    let k = c.loop-id.id-index in
    let first = c.loop-id.invariant.first in
    let size : c.len.result ≡ length c.loop-id.steps.items = search rules in
    let here : c.len.result ≡ k = size ∙ first.count in
    let more = more_steps net order c.requires k c.rank_in-rank.result _ c.loop-id.places c.loop-id.steps.items _ c.places_of-inputs.result
    c.loop-id-test.true first c.rank_in-rank.ensures.value c.index.ensures c.places_of-inputs.ensures in
    record {
      first = subst (λ p. AreFirstSteps net order (k + 1) (set c.loop-id.places c.rank_in-rank.result p) c.push.new.self.items) (sym here)
          (subst (AreFirstSteps net order (k + 1) (set c.loop-id.places c.rank_in-rank.result k)) (sym c.in_ok-push.ensures.items) more);
    }

pub returns : goal.returns
returns c =
    let e : c.loop-id.id-index ≡ length c.args.order.now = omega (arith, c.loop-id-test.false, c.loop-id.auto) in
    all_steps c.args.nodes.now.entries c.args.order.now c.requires c.loop-id.places c.loop-id.steps.items
    (subst (λ k. AreFirstSteps c.args.nodes.now.entries c.args.order.now k c.loop-id.places c.loop-id.steps.items) e c.loop-id.invariant.first)
