use Rattle.std.proofs.Common.{sym, refl, ◌-◌, None}
use Rattle.viz_network.specs.Edits.{connected}
use Rattle.viz_network.proofs.EditLemmas.{order_change, fed_emptied}
use Rattle.viz_network.proofs.changes.disconnect.Goals as goal

pub returns-clause-order : goal.returns-clause-order
returns-clause-order c =
    rw c.put_connection.ensures
    (order_change (connected c.args.at c.args.port None) (λ n. refl) (λ m front fed. fed_emptied m.inputs (c.args.port - 1) front fed)
    c.args.nodes.now.entries c.args.order.now c.args.to.now c.in-Some.target.now (sym c.in-Some.ensures) c.requires)
