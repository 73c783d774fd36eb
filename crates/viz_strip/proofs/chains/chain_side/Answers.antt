use Rattle.std.proofs.Common.{arith}
use Rattle.viz_strip.proofs.LinkLemmas.{one-chained}
use Rattle.viz_strip.proofs.chains.chain_side.Goals as goal

pub returns : goal.returns
returns c =
    record {
      chained =
          one-chained c.args.triangles.now c.args.side c.low_of-low.result c.args.lasts.now c.args.befores.now c.requires.chained c.low_of-low.ensures.value
          (let b = c.requires.sides.from_below c.args.side c.requires.within in omega (arith, c.low_of-low.ensures.most)) (omega arith);
    }
