use Rattle.viz_requests.proofs.ShapesLemmas.{slabs_more, slab_fits}
use Rattle.viz_requests.proofs.shapes.slabs_of.Goals as goal

pub loop-p-preserved : goal.loop-p-preserved
loop-p-preserved c =
    let i = c.loop-p.invariant in
    record {
      value = slabs_more c.args.n c.args.whole.now c.loop-p.p _ _ _ i.value c.in_ok-push_slab.ensures c.slab-slab.ensures.value;
      fits = slab_fits c.args.whole.now c.slab-slab.result _ _ i.fits c.in_ok-push_slab.ensures c.slab-slab.ensures.part;
    }
