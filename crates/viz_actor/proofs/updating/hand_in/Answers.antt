use Rattle.std.proofs.Common.{List, IfSome, sym, subst}
use Rattle.viz_entries.specs.History.{network_of}
use Rattle.viz_plan.specs.Published.{AreOfPlan}
use Rattle.viz_parts.specs.declared.stored.Key.{Key}
use Rattle.viz_parts.specs.declared.stored.Stored.{Stored}
use Rattle.viz_account.specs.declared.parts.UpdateParts.{UpdateParts}
use Rattle.viz_actor.proofs.updating.hand_in.Goals as goal

pub publish-pass-requires-clause-plan : goal.publish-pass-requires-clause-plan
publish-pass-requires-clause-plan g c =
    let net = network_of c.args.pin.pass.seen in
    let entries = c.args.pin.entries in
    let pieces = c.args.shape.now.pieces in
    let parts = c.in-Some.parts in
    let sink = parts.sink.0 in
    subst (λ (keys : List Key). AreOfPlan net entries sink pieces keys c.deref-in-Some.result.now)
    (sym c.deref.ensures.value)
    (subst (λ (items : List Stored). AreOfPlan net entries sink pieces parts.used.items items)
    (sym c.deref-in-Some.ensures.value)
    (subst
    (λ o. IfSome o
    (λ (p : UpdateParts). AreOfPlan net entries p.sink.0 pieces p.used.items p.made.items))
    c.in-Some.is c.requires.plan))
