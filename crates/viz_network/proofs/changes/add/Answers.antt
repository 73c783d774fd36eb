use Rattle.std.proofs.Common.{arith}
use Rattle.viz_network.proofs.EditLemmas.{order_add}
use Rattle.viz_network.proofs.changes.add.Goals as goal

pub returns-clause-order : goal.returns-clause-order
returns-clause-order c =
    rw (c.in_ok-put_node.ensures.ok, c.new_node.ensures, c.push_reserved.ensures.items, c.in_ok-reserve.ensures.items)
    (order_add c.args.nodes.now.entries c.args.order.now.items c.args.at c.args.name.now c.args.kind c.requires.order c.requires.past (omega arith))
