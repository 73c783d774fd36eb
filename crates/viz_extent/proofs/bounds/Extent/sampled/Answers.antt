use Rattle.std.proofs.Common.{◌≡◌, ◌/◌, ◌≤◌, [], ◌∷◌, sym, subst, rules}
use Rattle.viz_extent.specs.Extent.{Bounds, bounds_of, IsExtent}
use Rattle.viz_extent.specs.Parts.{rate_of, first_kept, sampled, HasSampled}
use Rattle.viz_extent.proofs.PartLemmas.{sampled_extent, sampled_points}
use Rattle.viz_extent.proofs.bounds.Extent.sampled.Goals as goal

pub of-requires : goal.of-requires
of-requires c =
    let b = c.args.self.now in
    let rate = rate_of c.args.rate in
    let x : first_kept b.x0 rate.x ≤ b.x1 / rate.x = search rules in
    let y : first_kept b.y0 rate.y ≤ b.y1 / rate.y = search rules in
    let z : first_kept b.z0 rate.z ≤ b.z1 / rate.z = search rules in
    let is : bounds_of (c.in_ok-x0.x0 ∷ c.in_ok-x0.x1 ∷ c.in_ok-y0.y0 ∷ c.in_ok-y0.y1 ∷ c.in_ok-z0.z0 ∷ c.in_ok-z0.z1 ∷ []) ≡ sampled rate b = search rules in
    subst IsExtent (sym is) (sampled_extent rate b c.requires.rate c.bounds.ensures.valid x y z)

pub returns-clause-points : goal.returns-clause-points
returns-clause-points c =
    let rate = rate_of c.args.rate in
    let is : c.of.result ≡ sampled rate c.args.self.now = search rules in
    subst (λ (b : Bounds). HasSampled rate c.args.self.now b) (sym is) (sampled_points rate c.args.self.now c.requires.rate)
