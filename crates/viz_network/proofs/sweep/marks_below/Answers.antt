use Rattle.std.proofs.Common.{◌∙◌, refl, false, nat_eq}
use Rattle.std.proofs.lemmas.List.{length-set}
use Rattle.viz_network.specs.Cone.{either}
use Rattle.viz_network.proofs.OrderLemmas.{stands_there, swept_more}
use Rattle.viz_network.proofs.sweep.marks_below.Goals as goal

pub rank_in-rank-requires-clause-there : goal.rank_in-rank-requires-clause-there
rank_in-rank-requires-clause-there c = stands_there c.args.nodes.now.entries c.args.order.now c.requires c.loop-id.id-index _ c.loop-id-test.true

pub loop-id-preserved : goal.loop-id-preserved
loop-id-preserved c = record {
  told = swept_more either false (λ n. nat_eq c.args.to.0 n.id.0) (λ b. refl) c.args.nodes.now.entries c.args.order.now c.requires c.loop-id.id-index c.rank_in-rank.result _ c.loop-id.marks _ c.is_late.result
      c.loop-id-test.true c.loop-id.invariant.long c.loop-id.invariant.told c.rank_in-rank.ensures.value c.index.ensures c.is_late.ensures;
  long = length-set c.loop-id.marks c.rank_in-rank.result c.is_late.result ∙ c.loop-id.invariant.long;
}
