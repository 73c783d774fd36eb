use Rattle.std.proofs.Common.{◌∙◌, max}
use Rattle.std.proofs.lemmas.List.{length-set}
use Rattle.std.proofs.Math.Nat.{zero-max}
use Rattle.viz_network.specs.Cone.{own_stamp}
use Rattle.viz_network.proofs.OrderLemmas.{stands_there, swept_more}
use Rattle.viz_network.proofs.sweep.stamps_of.Goals as goal

pub rank_in-rank-requires-clause-there : goal.rank_in-rank-requires-clause-there
rank_in-rank-requires-clause-there c = stands_there c.args.nodes.now.entries c.args.order.now c.requires c.loop-id.id-index _ c.loop-id-test.true

pub loop-id-preserved : goal.loop-id-preserved
loop-id-preserved c = record {
  told = swept_more max 0 own_stamp zero-max c.args.nodes.now.entries c.args.order.now c.requires c.loop-id.id-index c.rank_in-rank.result _ c.loop-id.stamps _ c.cone_stamp.result
      c.loop-id-test.true c.loop-id.invariant.long c.loop-id.invariant.told c.rank_in-rank.ensures.value c.index.ensures c.cone_stamp.ensures;
  long = length-set c.loop-id.stamps c.rank_in-rank.result c.cone_stamp.result ∙ c.loop-id.invariant.long;
}
