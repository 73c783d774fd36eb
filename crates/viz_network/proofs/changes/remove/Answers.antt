use Rattle.std.proofs.Common.{sym, ◌∙◌}
use Rattle.viz_network.proofs.RemoveLemmas.{order_remove}
use Rattle.viz_network.proofs.changes.remove.Goals as goal

pub returns-clause-order : goal.returns-clause-order
returns-clause-order c =
    rw (c.take_out.ensures, c.forget.ensures)
    (order_remove c.args.nodes.now.entries c.args.name.now c.in-Some.node.now (sym c.in-Some.ensures) c.requires.ascending (sym c.feeds_another.ensures ∙ c.if-feeds_another.false)
    c.args.order.now.items c.requires)
