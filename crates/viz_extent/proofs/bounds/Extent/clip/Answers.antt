use Rattle.std.proofs.Common.{refl, arith}
use Rattle.viz_extent.proofs.PartLemmas.{numbers-read, part_extent}
use Rattle.viz_extent.proofs.bounds.Extent.clip.Goals as goal

pub of-requires : goal.of-requires
of-requires c =
    let read = numbers-read _ _ c.bounds.ensures.value in
    part_extent c.args.self.now _ c.bounds.ensures.valid
    (record {
      x = record { first = omega arith; last = omega arith };
      y = record { first = omega arith; last = omega arith };
      z = record { first = omega arith; last = omega arith };
    })
    c.if-x0-x1.false c.if-y0-y1.false c.if-z0-z1.false

pub returns-clause-some : goal.returns-clause-some
returns-clause-some c =
    let read = numbers-read _ _ c.bounds.ensures.value in (
      λ _. record {
        i = c.max-x0.result;
        j = c.max-y0.result;
        k = c.max-z0.result;
        first = record {
          x = record { at_least = omega arith; at_most = omega arith };
          y = record { at_least = omega arith; at_most = omega arith };
          z = record { at_least = omega arith; at_most = omega arith };
        };
        second = record {
          x = record { at_least = omega arith; at_most = omega arith };
          y = record { at_least = omega arith; at_most = omega arith };
          z = record { at_least = omega arith; at_most = omega arith };
        };
      },
      λ _. refl,
    )
