use Rattle.std.proofs.Common.{◌≡◌, length, rules}
use Rattle.viz_network.proofs.OrderLemmas.{stamped}
use Rattle.viz_network.proofs.stamps.stamps_in.Goals as goal

pub invariant_of-result : goal.invariant_of-result
invariant_of-result c =
    let size : length c.stamps_of-stamps.result ≡ 256 = search rules in
    stamped c.args.nodes.now.entries c.args.order.now c.requires c.stamps_of-stamps.result size c.stamps_of-stamps.ensures
