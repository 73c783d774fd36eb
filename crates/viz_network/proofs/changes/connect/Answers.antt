use Rattle.std.proofs.Common.{sym}
use Rattle.viz_network.specs.Network.{node_of}
use Rattle.viz_network.proofs.OrderLemmas.{is_some_of}
use Rattle.viz_network.proofs.RemoveLemmas.{named_node}
use Rattle.viz_network.proofs.EditLemmas.{order_connect}
use Rattle.viz_network.proofs.changes.connect.Goals as goal

pub make_way-requires-clause-source : goal.make_way-requires-clause-source
make_way-requires-clause-source c =
    let a = c.in-Some.source.now in
    is_some_of (node_of c.args.nodes.now.entries a.id.0) a (named_node c.args.nodes.now.entries c.args.from.now a c.requires.ascending (sym c.in-Some.ensures))

pub make_way-requires-clause-target : goal.make_way-requires-clause-target
make_way-requires-clause-target c =
    let b = c.in-Some-node_named.target.now in
    is_some_of (node_of c.args.nodes.now.entries b.id.0) b (named_node c.args.nodes.now.entries c.args.to.now b c.requires.ascending (sym c.in-Some-node_named.ensures))

pub returns-clause-order : goal.returns-clause-order
returns-clause-order c =
    rw c.put_connection.ensures
    (order_connect c.args.nodes.now.entries _ c.args.to.now c.in-Some-node_named.target.now c.in-Some.source.now.id c.args.at c.args.port (sym c.in-Some-node_named.ensures) c.make_way.ensures.order (c.make_way.ensures.first c.if-not-make_way.false))
