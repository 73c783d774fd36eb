use Rattle.std.proofs.Common.{sym, subst, ap}
use Rattle.viz_script.specs.Orders.{audit}
use Rattle.viz_account.specs.Served.{Serves}
use Rattle.viz_actor.proofs.ServeLemmas.{serves_audit}
use Rattle.viz_actor.proofs.serving.count.Goals as goal

pub returns-clause-serves : goal.returns-clause-serves
returns-clause-serves g c =
    let m = g.P.Port in
    let p = c.args.pass in
    let new = c.audit_node-pass.result.0 in
    let shape = c.args.shape.now in
    let asked = audit c.args.node.now shape.pieces shape.workers in
    let port = c.args.port.now in
    subst (λ limit. Serves m limit p.number asked c.line.result p.seen new.seen port port)
    (ap (λ t. t.mark) c.requires.belongs)
    (subst (λ l. Serves m p.turn.mark p.number asked l p.seen new.seen port port)
    (sym c.line.ensures.value)
    (serves_audit m p new c.args.node.now shape c.audit_node-pass.result.1 port
    c.audit_node-pass.ensures.further c.audit_node-pass.ensures.audits))
