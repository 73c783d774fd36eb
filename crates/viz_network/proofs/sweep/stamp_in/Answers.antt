use Rattle.std.proofs.Common.{max}
use Rattle.viz_network.specs.Cone.{own_stamp}
use Rattle.viz_network.proofs.OrderLemmas.{whole_table}
use Rattle.viz_network.proofs.sweep.stamp_in.Goals as goal

pub returns : goal.returns
returns c = whole_table max 0 own_stamp c.args.nodes.now.entries c.args.order.now c.requires.order c.stamps_of.result c.stamps_of.ensures c.args.id.0 c.rank_in.result 0 c.requires.there c.rank_in.ensures.value
