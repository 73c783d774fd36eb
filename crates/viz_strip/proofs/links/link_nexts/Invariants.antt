use Rattle.std.proofs.Common.{◌≡◌, ◌-◌, ◌*◌, ◌<◌, ◌≤◌, length}
use Rattle.viz_strip.specs.Steps.Links.{HaveNexts, IsSeen}
use Rattle.viz_strip.specs.Steps.Sides.{low_of}
use Rattle.viz_strip.proofs.links.link_nexts.Given as goal

abbrev pub invariant-loop-at : goal.invariant-loop-at
invariant-loop-at l = record {
  within : l.at ≤ 3 * length l.triangles;
  is : 0 < l.at → low_of l.triangles (l.at - 1) ≡ l.low;
  seen : IsSeen l.triangles l.low l.at l.seen;
  nexts : HaveNexts l.triangles l.low l.at l.nexts;
}

abbrev pub decreases-loop-at : goal.decreases-loop-at
decreases-loop-at l = l.at
