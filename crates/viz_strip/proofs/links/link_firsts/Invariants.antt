use Rattle.std.proofs.Common.{◌≡◌, ◌-◌, ◌*◌, ◌<◌, ◌≤◌, length}
use Rattle.viz_strip.specs.Steps.Links.{HaveFirsts}
use Rattle.viz_strip.specs.Steps.Sides.{low_of}
use Rattle.viz_strip.proofs.links.link_firsts.Given as goal

abbrev pub invariant-loop-at : goal.invariant-loop-at
invariant-loop-at l = record {
  within : l.at ≤ 3 * length l.triangles;
  is : 0 < l.at → low_of l.triangles (l.at - 1) ≡ l.low;
  firsts : HaveFirsts l.triangles l.low l.at l.firsts;
}

abbrev pub decreases-loop-at : goal.decreases-loop-at
decreases-loop-at l = l.at
