use Rattle.std.proofs.Common.{sym, subst, ap}
use Rattle.viz_script.specs.Orders.{update}
use Rattle.viz_account.specs.Served.{Serves}
use Rattle.viz_actor.specs.Updating.{IsUpdate}
use Rattle.viz_actor.proofs.ServeLemmas.{serves_update}
use Rattle.viz_actor.proofs.serving.write.Goals as goal

pub returns-clause-serves : goal.returns-clause-serves
returns-clause-serves g c =
    let m = g.P.Port in
    let p = c.args.pass in
    let new = c.update-pass.result.0 in
    let node = c.args.node.now in
    let shape = c.args.shape.now in
    let asked = update node c.args.file.now shape.pieces shape.workers in
    let port = c.args.port.now in
    let after = c.update-pass.new.port in
    let answer = c.update-pass.result.1 in
    subst (λ limit. Serves m limit p.number asked c.line.result p.seen new.seen port after)
    (ap (λ t. t.mark) c.requires.belongs)
    (subst (λ l. Serves m p.turn.mark p.number asked l p.seen new.seen port after)
    (sym c.line.ensures.value)
    (serves_update m p new node c.args.file.now shape answer port after
    c.update-pass.ensures.further
    (subst (λ f. IsUpdate m node f shape answer p new port after) c.text.ensures.value
    c.update-pass.ensures.updates)))
