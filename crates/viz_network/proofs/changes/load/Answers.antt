use Rattle.std.proofs.Common.{sym, refl}
use Rattle.viz_network.specs.Edits.{loaded}
use Rattle.viz_network.proofs.EditLemmas.{order_change}
use Rattle.viz_network.proofs.changes.load.Goals as goal

pub returns-clause-order : goal.returns-clause-order
returns-clause-order c =
    rw c.put_file.ensures
    (order_change (loaded c.args.at c.in_ok-file.file) (λ n. refl) (λ m front fed. fed)
    c.args.nodes.now.entries c.args.order.now c.args.name.now c.in-Some.node.now (sym c.in-Some.ensures) c.requires)
