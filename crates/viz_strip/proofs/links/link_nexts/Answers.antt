use Rattle.std.proofs.Common.{◌≡◌, ◌-◌, ℕ, get_or, subst, arith}
use Rattle.viz_strip.specs.Steps.Links.{IsLast}
use Rattle.viz_strip.specs.Steps.Sides.{low_of}
use Rattle.viz_strip.proofs.LinkLemmas.{nexts-lower, seen-lower}
use Rattle.viz_strip.proofs.links.link_nexts.Goals as goal

pub loop-at-preserved : goal.loop-at-preserved
loop-at-preserved c =
    let ts = c.args.triangles.now in
    let at = c.loop-at.at in
    let before = get_or c.args.befores.now (at - 1) 0 in
    let is : low_of ts (at - 1) ≡ c.args.low = c.loop-at.invariant.is (omega arith) in
    let last : IsLast ts c.args.low (at - 1) before = subst (λ (k : ℕ). IsLast ts k (at - 1) before) is (c.requires.chained (at - 1) (omega (arith, c.loop-at.invariant.within))) in
    record {
      within = omega (arith, last.within, c.loop-at.invariant.within);
      is = last.is;
      seen = seen-lower ts c.args.low (at - 1) before c.link_next.new.seen last c.link_next.ensures.seen;
      nexts = nexts-lower ts c.args.low (at - 1) before c.link_next.new.nexts last c.link_next.ensures.nexts;
    }
