use Rattle.viz_network.specs.Step.{nodes_of}
use Rattle.viz_plan.specs.Told.{known_with}
use Rattle.viz_plan.proofs.SiteLemmas.{more_sites}
use Rattle.viz_plan.proofs.sites.all_sites.Goals as goal

pub loop-place-preserved : goal.loop-place-preserved
loop-place-preserved c = record {
  begun = more_sites (known_with c.args.net.now c.args.told.now c.args.entries.now) (nodes_of c.args.steps.now) c.loop-place.place c.loop-place.sites.items _ c.in_ok-site.site
      c.loop-place.invariant.begun
      (λ x at. c.in_ok-site.ensures x at c.args.told.now c.args.entries.now c.in_ok-shown.ensures c.in_ok-entries.ensures)
      c.in_ok-push.ensures.items;
}
