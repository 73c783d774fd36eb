use Rattle.std.proofs.Common.{◌≡◌, sym, subst, rules, arith}
use Rattle.viz_extent.specs.Extent.{Bounds}
use Rattle.viz_extent.specs.Parts.{HasGrown, grown}
use Rattle.viz_extent.proofs.PartLemmas.{numbers-read, part_extent, grown_points}
use Rattle.viz_extent.proofs.bounds.Extent.grow.Goals as goal

pub of-requires : goal.of-requires
of-requires c =
    let whole = numbers-read _ _ c.bounds.ensures.value in
    let inner = numbers-read _ _ c.bounds-2.ensures.value in
    part_extent c.args.whole.now _ c.bounds.ensures.valid
    (record {
      x = record { first = omega arith; last = omega arith };
      y = record { first = omega arith; last = omega arith };
      z = record { first = omega arith; last = omega arith };
    })
    (omega arith) (omega arith) (omega arith)

pub returns-clause-points : goal.returns-clause-points
returns-clause-points c =
    let by = c.args.by in
    let whole = c.args.whole.now in
    let is : c.of.result ≡ grown by whole c.args.self.now = search rules in
    subst (λ (b : Bounds). HasGrown by whole c.args.self.now b) (sym is) (grown_points by whole c.args.self.now c.bounds-2.ensures.valid)
