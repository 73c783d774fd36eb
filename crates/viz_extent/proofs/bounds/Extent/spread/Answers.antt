use Rattle.std.proofs.Common.{◌≡◌, sym, subst, rules}
use Rattle.viz_extent.specs.Extent.{Bounds}
use Rattle.viz_extent.specs.Parts.{rate_of, HasSampled, spread}
use Rattle.viz_extent.proofs.PartLemmas.{spread_points}
use Rattle.viz_extent.proofs.bounds.Extent.spread.Goals as goal

pub returns-clause-points : goal.returns-clause-points
returns-clause-points c =
    let rate = rate_of c.args.rate in
    let is : c.of.result ≡ spread rate c.args.self.now = search rules in
    subst (λ (b : Bounds). HasSampled rate b c.args.self.now) (sym is) (spread_points rate c.args.self.now c.requires.rate)
