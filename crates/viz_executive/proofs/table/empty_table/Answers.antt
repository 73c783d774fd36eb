use Rattle.viz_executive.proofs.TableLemmas.{exact_push}
use Rattle.viz_executive.proofs.table.empty_table.Goals as goal

pub loop-preserved : goal.loop-preserved
loop-preserved c = record {
  exact = exact_push c.args.ground.now.sites.net c.loop.table.items _ c.new.result c.loop.invariant.exact c.new.ensures.items c.in_ok-push.ensures.items;
}
