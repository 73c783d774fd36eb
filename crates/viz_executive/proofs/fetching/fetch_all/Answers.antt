use Rattle.viz_executive.specs.Steps.Tables.{IsFetched}
use Rattle.viz_executive.proofs.ZipLemmas.{zip_more}
use Rattle.viz_executive.proofs.fetching.fetch_all.Goals as goal

pub loop-place-preserved : goal.loop-place-preserved
loop-place-preserved c = record {
  parts = zip_more (IsFetched c.args.ground.now.sites.net c.args.ground.now.order c.args.request.now) c.args.places.now c.loop-place.place-index _ c.loop-place.parts.items _ c.in_ok-fetch_at.field-0 c.loop-place-test.true c.loop-place.invariant.parts
      c.in_ok-fetch_at.ensures.part c.in_ok-push.ensures.items;
}
