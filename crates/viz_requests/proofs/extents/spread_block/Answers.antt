use Rattle.std.proofs.Common.{rules}
use Rattle.viz_extent.specs.Parts.{rate_of}
use Rattle.viz_requests.proofs.UpstreamLemmas.{spread_extent}
use Rattle.viz_requests.proofs.extents.spread_block.Goals as goal

pub spread-requires-clause-fits : goal.spread-requires-clause-fits
spread-requires-clause-fits c =
    spread_extent (rate_of c.args.rate) c.args.whole.now c.args.block.now c.bounds-whole.ensures.valid c.bounds-block.ensures.valid
    (let h = c.if-has_spread.true in search rules)
