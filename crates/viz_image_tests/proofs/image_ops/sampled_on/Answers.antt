use Rattle.std.proofs.Common.{subst, arith}
use Rattle.viz_extent.specs.Extent.{Bounds}
use Rattle.viz_extent.specs.Parts.{rate_of, IsPart}
use Rattle.viz_image_tests.proofs.image_ops.sampled_on.Goals as goal

itself : (b : Bounds) → IsPart b b
itself b = record {
  x = record { first = omega arith; last = omega arith };
  y = record { first = omega arith; last = omega arith };
  z = record { first = omega arith; last = omega arith };
}

pub sample-requires : goal.sample-requires
sample-requires c =
    let out = c.args.out.now in
    let whole = c.args.image.now.extent in
    let rate = rate_of c.args.rate in
    record {
      rate = c.requires.rate;
      within = c.samples_ask_within_the_whole.ensures.within rate whole out c.requires.rate (subst (λ (b : Bounds). IsPart b out) c.requires.part (itself out));
      steps = c.are_longer_steps.ensures c.if-not-are_longer_steps.false;
    }
