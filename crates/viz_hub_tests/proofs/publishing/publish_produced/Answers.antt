use Rattle.std.proofs.Common.{List, inr, sym, subst}
use Rattle.viz_entries.specs.History.{network_of}
use Rattle.viz_executive.proofs.PublishedLemmas.{of_plan}
use Rattle.viz_plan.specs.Published.{AreOfPlan}
use Rattle.viz_parts.specs.declared.stored.Key.{Key}
use Rattle.viz_parts.specs.declared.stored.Stored.{Stored}
use Rattle.viz_hub_tests.proofs.publishing.publish_produced.Goals as goal

pub publish-requires-clause-plan : goal.publish-requires-clause-plan
publish-requires-clause-plan g c =
    let net = network_of c.args.pin.pass.seen in
    let entries = c.args.pin.entries in
    let sink = c.args.node.0 in
    let pieces = c.args.shape.now.pieces in
    let produced = c.args.produced in
    let plan = c.requires.plan in
    let all = c.in-Ok in
    subst (λ (keys : List Key). AreOfPlan net entries sink pieces keys c.deref-2.result.now)
    (sym c.deref.ensures.value)
    (subst (λ (items : List Stored). AreOfPlan net entries sink pieces produced.used.items items)
    (sym c.deref-2.ensures.value)
    (of_plan net entries sink pieces produced all.all.items plan (inr all.ensures.keys)
    (all.ensures.made net plan.by.parts plan.by.only)))
