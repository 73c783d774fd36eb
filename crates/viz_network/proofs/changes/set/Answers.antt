use Rattle.std.proofs.Common.{sym, refl}
use Rattle.viz_network.specs.Edits.{valued}
use Rattle.viz_network.proofs.EditLemmas.{order_change}
use Rattle.viz_network.proofs.changes.set.Goals as goal

pub returns-clause-order : goal.returns-clause-order
returns-clause-order c =
    rw c.put_value.ensures
    (order_change (valued c.args.at c.args.param c.args.value.now) (λ n. refl) (λ m front fed. fed)
    c.args.nodes.now.entries c.args.order.now c.args.name.now c.in-Some.node.now (sym c.in-Some.ensures) c.requires)
