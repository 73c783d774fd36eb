use Rattle.viz_requests.proofs.ShapesLemmas.{pieces_more, piece_fits}
use Rattle.viz_requests.proofs.shapes.pieces_of.Goals as goal

pub loop-p-preserved : goal.loop-p-preserved
loop-p-preserved c =
    let i = c.loop-p.invariant in
    record {
      value = pieces_more c.args.n c.loop-p.p _ _ i.value c.in_ok-push.ensures.items;
      fits = piece_fits c.args.n c.loop-p.p _ _ c.loop-p-test.true i.fits c.in_ok-push.ensures.items;
    }
